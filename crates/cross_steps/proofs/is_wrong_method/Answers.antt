-- `cross_steps::is_wrong_method` meets its contract.
-- Assumes nothing.
use Rattle.base.proofs.IfLaws.{chain}
use Rattle.cross_steps.specs.Way.StepWords.{wrong_method}
use Rattle.cross_steps.proofs.is_wrong_method.Goals as goal

pub returns-then-mult : goal.returns-then-mult
unfolding wrong_method
returns-then-mult c = search chain

pub returns : goal.returns
unfolding wrong_method
returns c = search chain
