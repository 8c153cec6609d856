-- `read_line::stops` meets its contract: it is the definition.
-- Assumes nothing.
use mathlib.Core.Path.{refl}
use Rattle.read_line.specs.Reading.{breaks}
use Rattle.read_line.proofs.stops.Goals as goal

pub returns : goal.returns
unfolding breaks
returns c = refl
