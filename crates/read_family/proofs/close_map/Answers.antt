-- `read_family::close_map` meets its contract: the record of the map, below its Pin_list.
-- Assumes nothing.
use Rattle.read_family.proofs.OpenLaws.{maps_kept, maps_closed}
use Rattle.read_family.proofs.close_map.Goals as goal

pub returns-then-s-ne-PIN_LIST : goal.returns-then-s-ne-PIN_LIST
returns-then-s-ne-PIN_LIST c = search maps_kept

pub returns : goal.returns
returns c = search maps_closed
