-- `cross_steps::clash` meets its contract.
-- Assumes nothing.
use Rattle.base.proofs.IfLaws.{chain}
use Rattle.cross_steps.specs.Way.StepWords.{clashing}
use Rattle.cross_steps.proofs.RuleLaws.{sides_told}
use Rattle.cross_steps.proofs.clash.Goals as goal

pub returns-then-other-eq0 : goal.returns-then-other-eq0
unfolding clashing
returns-then-other-eq0 c = search chain

pub returns-then-own-eq0 : goal.returns-then-own-eq0
unfolding clashing
returns-then-own-eq0 c = search chain

pub returns : goal.returns
returns c = search sides_told
