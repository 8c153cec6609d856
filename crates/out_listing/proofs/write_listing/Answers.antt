-- `out_listing::write_listing` meets its contract.
-- Assumes nothing.
use Rattle.out_listing.proofs.TextLaws.{listing_written}
use Rattle.out_listing.proofs.write_listing.Goals as goal

pub returns : goal.returns
returns c = search listing_written
