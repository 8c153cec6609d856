-- `read_line::named_step` meets its contract: by the argument that was cut.
-- Assumes nothing.
use Rattle.read_line.proofs.StepLaws.{named_told}
use Rattle.read_line.proofs.named_step.Goals as goal

pub returns : goal.returns
returns c = search named_told
