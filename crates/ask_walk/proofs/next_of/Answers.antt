-- `ask_walk::next_of` meets its contract.
-- Assumes nothing.
use Rattle.ask_walk.proofs.StepLaws.{next_is}
use Rattle.ask_walk.proofs.next_of.Goals as goal

pub returns : goal.returns
returns c = search next_is
