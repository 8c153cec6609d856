-- `out_listing::values_in` meets its contract.
-- Assumes nothing.
use Rattle.out_listing.proofs.ShownLaws.{values_told}
use Rattle.out_listing.proofs.values_in.Goals as goal

pub returns : goal.returns
returns c = search values_told
