-- `out_double::pair_of` meets its contract: the library's zip is the definition's pair.
-- Assumes nothing.
use Rattle.out_double.proofs.DrawLaws.{zip_same}
use Rattle.out_double.proofs.pair_of.Goals as goal

pub returns : goal.returns
returns c = search zip_same
