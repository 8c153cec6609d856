-- `cross_names::list::opens_model` meets its contract.
-- Assumes nothing.
use Rattle.base.proofs.IfLaws.{chain}
use Rattle.cross_names.proofs.list.opens_model.Goals as goal

pub returns-then-not-is_in_family : goal.returns-then-not-is_in_family
returns-then-not-is_in_family c = search chain

pub returns : goal.returns
returns c = search chain
