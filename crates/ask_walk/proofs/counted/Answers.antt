-- `ask_walk::counted` meets its contract.
-- Assumes nothing.
use Rattle.base.proofs.IfLaws.{chain}
use Rattle.ask_walk.proofs.counted.Goals as goal

pub returns-then-kind-other : goal.returns-then-kind-other
returns-then-kind-other c = search chain

pub returns : goal.returns
returns c = search chain
