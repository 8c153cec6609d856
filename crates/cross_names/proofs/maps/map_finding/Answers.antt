use borrow.Author.Rules.{rules}
use Prim.Native.Nat.{ℕ}
use lib.ListN.{length-replicate}
use Rattle.table_name.specs.Way.Hash.{marks_many}
use Rattle.cross_rules.proofs.TableLaws.{text_rooms}
use Rattle.cross_names.proofs.MapLaws.{maps_start, maps_end, name_room, stamp_fits, map_breaks, pins_room, pins_break, maps_on}
use Rattle.table_layout.specs.Bounds.{most_maps}
use Rattle.cross_names.proofs.maps.map_finding.Goals as goal

pub loop-i-init : goal.loop-i-init
loop-i-init c = (search maps_start, length-replicate {A = ℕ} marks_many most_maps)

pub is_repeated_name-requires : goal.is_repeated_name-requires
is_repeated_name-requires c = search (rules, name_room)

pub returns-then-is_repeated_name : goal.returns-then-is_repeated_name
returns-then-is_repeated_name c = search map_breaks

pub nth-map-requires : goal.nth-map-requires
nth-map-requires c = search (rules, text_rooms)

pub overflow_cast-i : goal.overflow_cast-i
overflow_cast-i c = search stamp_fits

pub own_finding-found-requires : goal.own_finding-found-requires
own_finding-found-requires c = search (rules, text_rooms, pins_room)

pub returns-then-found-ne0 : goal.returns-then-found-ne0
returns-then-found-ne0 c = search pins_break

pub loop-i-preserved : goal.loop-i-preserved
loop-i-preserved c = (maps_on _ _ c.requires.0 _ c.requires.1 _ (search rules) (search rules) _ c.is_repeated_name.ensures (search rules) _ c.nth-map.ensures _ c.own_finding-found.ensures.0 (search rules), search rules)

pub returns : goal.returns
returns c = search maps_end
