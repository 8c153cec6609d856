-- `out_listing::put_values` meets its contract.
-- Assumes nothing.
use Rattle.out_listing.proofs.TextLaws.{values_written}
use Rattle.out_listing.proofs.ShownLaws.{values_shown, matrices_shown}
use Rattle.out_listing.proofs.put_values.Goals as goal

pub returns : goal.returns
returns c = search (values_written, values_shown, matrices_shown)
