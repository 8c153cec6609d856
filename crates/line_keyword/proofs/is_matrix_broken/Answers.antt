-- `line_keyword::is_matrix_broken` meets its contract: by the integer of a keyword that stays in the matrix, else by the matrix it closes.
-- Assumes nothing.
use Rattle.base.proofs.IfLaws.{chain}
use Rattle.line_keyword.specs.Keywords.{is_matrix_broken}
use Rattle.line_keyword.proofs.is_matrix_broken.Goals as goal

pub returns-then-is_row_or_bandwidth : goal.returns-then-is_row_or_bandwidth
unfolding is_matrix_broken
returns-then-is_row_or_bandwidth c = search chain

pub returns : goal.returns
unfolding is_matrix_broken
returns c = search chain
