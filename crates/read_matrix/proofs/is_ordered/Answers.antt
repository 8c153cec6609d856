-- `read_matrix::is_ordered` meets its contract.
-- Assumes nothing.
use Rattle.read_matrix.proofs.RunLaws.{diagonal_ordered, rowed_ordered}
use Rattle.read_matrix.proofs.is_ordered.Goals as goal

pub returns-then-matrix-eq-DIAGONAL : goal.returns-then-matrix-eq-DIAGONAL
returns-then-matrix-eq-DIAGONAL c = search diagonal_ordered

pub returns : goal.returns
returns c = search rowed_ordered
