-- `cross_names::maps::pin_finding` meets its contract. The loop's invariant: the pins left give what all of the map's pins break first, and those gone over are marked.
-- Assumes nothing.
use Rattle.table_layout.specs.Layout.{pin_width}
use Rattle.cross_rules.specs.Way.Repeated.{MarkedNames}
use Rattle.cross_names.proofs.PinLaws.{PinsLeft}
use Rattle.cross_names.proofs.maps.pin_finding.Given as goal

abbrev pub invariant-loop-i : goal.invariant-loop-i
invariant-loop-i l = PinsLeft l.text l.table l.base l.first l.count l.i × MarkedNames l.text l.table l.marks l.stamp l.base pin_width l.i
