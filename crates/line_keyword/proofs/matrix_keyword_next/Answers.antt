-- `line_keyword::matrix_keyword_next` meets its contract: by the keyword.
-- Assumes nothing.
use Rattle.line_keyword.proofs.BlockLaws.{kept_row, kept_bandwidth, kept_small}
use Rattle.line_keyword.proofs.matrix_keyword_next.Goals as goal

pub returns-then-key-eq-ROW : goal.returns-then-key-eq-ROW
returns-then-key-eq-ROW c = search kept_row

pub with_bandwidth-requires : goal.with_bandwidth-requires
with_bandwidth-requires c = search kept_small

pub returns-else-key-eq-ROW : goal.returns-else-key-eq-ROW
returns-else-key-eq-ROW c = search kept_bandwidth
