-- `cross_names::list::model_found` meets its contract.
-- Assumes nothing.
use Rattle.cross_names.proofs.NamedLaws.{found_first}
use Rattle.cross_names.proofs.list.model_found.Goals as goal

pub returns : goal.returns
returns c = search found_first
