-- `read_family::close_model` meets its contract: the record of the model, if the line leads out of it.
-- Assumes nothing.
use Rattle.read_family.proofs.OpenLaws.{models_apart, models_kept, models_closed}
use Rattle.read_family.proofs.close_model.Goals as goal

pub returns-then-not-is_in_model : goal.returns-then-not-is_in_model
returns-then-not-is_in_model c = search models_apart

pub returns-then-is_in_model : goal.returns-then-is_in_model
returns-then-is_in_model c = search models_kept

pub returns : goal.returns
returns c = search models_closed
