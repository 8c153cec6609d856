-- `read_line::is_blank_line` meets its contract: the run of blanks from the start is the whole line.
-- Assumes nothing.
use Rattle.read_line.proofs.StepLaws.{blank_told}
use Rattle.read_line.proofs.is_blank_line.Goals as goal

pub returns : goal.returns
returns c = search blank_told
