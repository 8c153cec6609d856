-- `cross_names::maps::map_finding` meets its contract. The loop's invariant: the maps left give what all of them break first.
-- Assumes nothing.
use mathlib.Core.Path.{◌≡◌}
use lib.ListN.{length}
use Rattle.table_name.specs.Way.Hash.{marks_many}
use Rattle.cross_names.proofs.MapLaws.{MapsLeft}
use Rattle.cross_names.proofs.maps.map_finding.Given as goal

abbrev pub invariant-loop-i : goal.invariant-loop-i
invariant-loop-i l = MapsLeft l.text l.i × (length l.marks ≡ marks_many)
