-- `read_matrix::data_line` meets its contract.
-- Assumes nothing.
use Rattle.read_matrix.proofs.LineLaws.{data_broken}
use Rattle.read_matrix.proofs.data_line.Goals as goal

pub returns : goal.returns
returns c = search data_broken
