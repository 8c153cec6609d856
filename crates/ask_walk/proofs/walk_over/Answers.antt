-- `ask_walk::walk_over` meets its contract.
-- Assumes nothing.
use Rattle.ask_walk.proofs.StepLaws.{over_steps}
use Rattle.ask_walk.proofs.walk_over.Goals as goal

pub returns : goal.returns
returns c = search over_steps
