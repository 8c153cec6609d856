-- `read_line::goes_on` meets its contract: it is the definition.
-- Assumes nothing.
use mathlib.Core.Path.{refl}
use Rattle.read_line.specs.Reading.{goes}
use Rattle.read_line.proofs.goes_on.Goals as goal

pub returns : goal.returns
unfolding goes
returns c = refl
