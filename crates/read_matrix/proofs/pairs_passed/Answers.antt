-- `read_matrix::pairs_passed` meets its contract.
-- Assumes nothing.
use mathlib.Core.Path.{refl}
use Rattle.read_matrix.specs.Way.Run.{pairs_part}
use Rattle.read_matrix.proofs.pairs_passed.Goals as goal

pub returns : goal.returns
unfolding pairs_part
returns c = refl
