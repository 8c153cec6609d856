-- `read_family::open_block` meets its contract: the argument of the keyword, where it stands in the text.
-- Assumes nothing.
use Rattle.read_family.proofs.OpenLaws.{opening_fits, opening_told}
use Rattle.read_family.proofs.open_block.Goals as goal

pub overflow_add-result : goal.overflow_add-result
overflow_add-result c = search opening_fits

pub returns : goal.returns
returns c = search opening_told
