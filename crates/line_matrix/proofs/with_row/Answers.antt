-- `line_matrix::with_row` meets its contract: what the calls answered, field by field.
-- Assumes nothing.
use Rattle.line_matrix.proofs.MatrixLaws.{row_added}
use Rattle.line_matrix.proofs.with_row.Goals as goal

pub returns : goal.returns
returns c = search row_added
