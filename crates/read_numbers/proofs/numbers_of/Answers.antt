-- `read_numbers::numbers_of` meets its contract.
-- Assumes nothing.
use mathlib.Core.Path.{refl}
use Rattle.read_numbers.specs.Way.Steps.{numbers_result}
use Rattle.read_numbers.proofs.numbers_of.Goals as goal

pub returns : goal.returns
unfolding numbers_result
returns c = refl
