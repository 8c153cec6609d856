-- `cross_names::list::is_list_line` meets its contract.
-- Assumes nothing.
use Rattle.base.proofs.IfLaws.{chain}
use Rattle.cross_names.proofs.list.is_list_line.Goals as goal

pub returns-then-place-ne-LIST : goal.returns-then-place-ne-LIST
returns-then-place-ne-LIST c = search chain

pub returns : goal.returns
returns c = search chain
