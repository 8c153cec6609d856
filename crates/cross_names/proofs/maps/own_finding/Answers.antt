-- `cross_names::maps::own_finding` meets its contract.
-- Assumes nothing.
use Rattle.cross_names.specs.Way.Pins.{pins_of_map}
use borrow.Author.Rules.{rules}
use Rattle.cross_names.proofs.maps.own_finding.Goals as goal

pub returns : goal.returns
unfolding pins_of_map
returns c = search rules
