-- `line_keyword::is_wrong_by` meets its contract: by the integer that is read.
-- Assumes nothing.
use Rattle.line_keyword.proofs.BlockLaws.{by_value}
use Rattle.line_keyword.proofs.is_wrong_by.Goals as goal

pub returns : goal.returns
returns c = search by_value
