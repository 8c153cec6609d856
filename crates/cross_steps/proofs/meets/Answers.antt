-- `cross_steps::meets` meets its contract.
-- Assumes nothing.
use Rattle.base.proofs.IfLaws.{chain}
use Rattle.cross_steps.specs.Way.StepWords.{meeting}
use Rattle.cross_steps.proofs.meets.Goals as goal

pub returns-then-other-ne-END : goal.returns-then-other-ne-END
unfolding meeting
returns-then-other-ne-END c = search chain

pub returns-then-other-own : goal.returns-then-other-own
unfolding meeting
returns-then-other-own c = search chain

pub returns : goal.returns
unfolding meeting
returns c = search chain
