-- `read_path::fork_step` meets its contract.
-- Assumes nothing.
use Rattle.read_path.proofs.StepLaws.{fork_staged}
use Rattle.read_path.proofs.fork_step.Goals as goal

pub returns : goal.returns
returns c = search fork_staged
