-- `line_matrix::number_check` meets its contract: both by the number.
-- Assumes nothing.
use Rattle.line_matrix.proofs.number_check.Goals as goal

pub returns : goal.returns
returns c = cc
