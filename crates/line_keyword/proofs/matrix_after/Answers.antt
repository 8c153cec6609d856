-- `line_keyword::matrix_after` meets its contract: by the keyword.
-- Assumes nothing.
use Rattle.line_keyword.proofs.BlockLaws.{matrix_opened, row_opened, bandwidth_set, matrix_kept, bandwidth_small}
use Rattle.line_keyword.proofs.matrix_after.Goals as goal

pub returns-then-opens_matrix : goal.returns-then-opens_matrix
returns-then-opens_matrix c = search matrix_opened

pub returns-then-key-eq-ROW : goal.returns-then-key-eq-ROW
returns-then-key-eq-ROW c = search row_opened

pub with_bandwidth-requires : goal.with_bandwidth-requires
with_bandwidth-requires c = search bandwidth_small

pub returns-then-key-eq-BANDWIDTH : goal.returns-then-key-eq-BANDWIDTH
returns-then-key-eq-BANDWIDTH c = search bandwidth_set

pub returns : goal.returns
returns c = search matrix_kept
