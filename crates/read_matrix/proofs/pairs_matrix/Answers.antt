-- `read_matrix::pairs_matrix` meets its contract.
-- Assumes nothing.
use mathlib.Core.Path.{refl}
use Rattle.read_matrix.specs.Way.Run.{pairs_matrix}
use Rattle.read_matrix.proofs.pairs_matrix.Goals as goal

pub returns : goal.returns
unfolding pairs_matrix
returns c = refl
