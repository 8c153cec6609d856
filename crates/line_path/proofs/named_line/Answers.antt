-- `line_path::named_line` meets its contract.
-- Assumes nothing.
use Rattle.line_path.proofs.LineLaws.{named_told}
use Rattle.line_path.proofs.named_line.Goals as goal

pub returns : goal.returns
returns c = search named_told
