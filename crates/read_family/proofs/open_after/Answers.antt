-- `read_family::open_after` meets its contract: a model or a map is opened, or none.
-- Assumes nothing.
use Rattle.read_family.proofs.OpenLaws.{after_model, after_map, after_same}
use Rattle.read_family.proofs.open_after.Goals as goal

pub returns-then-is_entered : goal.returns-then-is_entered
returns-then-is_entered c = search after_model

pub returns-then-is_entered-2 : goal.returns-then-is_entered-2
returns-then-is_entered-2 c = search after_map

pub returns : goal.returns
returns c = search after_same
