-- `read_matrix::numbers_passed` meets its contract.
-- Assumes nothing.
use mathlib.Core.Path.{refl}
use Rattle.read_matrix.specs.Way.Run.{numbers_part}
use Rattle.read_matrix.proofs.numbers_passed.Goals as goal

pub returns : goal.returns
unfolding numbers_part
returns c = refl
