-- `cross_steps::lesser_given` meets its contract.
-- Assumes nothing.
use Rattle.base.proofs.IfLaws.{chain}
use Rattle.cross_steps.specs.Way.StepWords.{lesser_given}
use Rattle.cross_steps.proofs.lesser_given.Goals as goal

pub returns-then-a-eq0 : goal.returns-then-a-eq0
unfolding lesser_given
returns-then-a-eq0 c = search chain

pub returns-then-b-eq0 : goal.returns-then-b-eq0
unfolding lesser_given
returns-then-b-eq0 c = search chain

pub returns-then-b-a : goal.returns-then-b-a
unfolding lesser_given
returns-then-b-a c = search chain

pub returns : goal.returns
unfolding lesser_given
returns c = search chain
