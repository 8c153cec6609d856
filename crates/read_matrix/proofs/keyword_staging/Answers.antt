-- `read_matrix::keyword_staging` meets its contract: by the keyword.
-- Assumes nothing.
use Rattle.read_matrix.proofs.LineLaws.{row_staged, bandwidth_staged}
use Rattle.read_matrix.proofs.keyword_staging.Goals as goal

pub returns-then-key-eq-ROW : goal.returns-then-key-eq-ROW
returns-then-key-eq-ROW c = search row_staged

pub returns : goal.returns
returns c = search bandwidth_staged
