-- `read_family::read_on` meets its contract: lines of a path or a pin list, lines that change nothing, or the line at the
-- offset.
-- Assumes nothing.
use Rattle.read_family.proofs.FamilyLaws.{idle_goes}
use Rattle.read_family.proofs.read_on.Goals as goal

pub returns-then-s-eq-PATH : goal.returns-then-s-eq-PATH
returns-then-s-eq-PATH c = c.read_steps.ensures _

pub returns-then-s-eq-PIN_LIST : goal.returns-then-s-eq-PIN_LIST
returns-then-s-eq-PIN_LIST c = c.read_pins.ensures _

pub returns-then-at-passing : goal.returns-then-at-passing
returns-then-at-passing c = search idle_goes

pub returns : goal.returns
returns c = c.read_alone.ensures _ _
