-- `out_listing::put_part` meets its contract.
-- Assumes nothing.
use Rattle.out_listing.proofs.TextLaws.{part_written}
use Rattle.out_listing.proofs.put_part.Goals as goal

pub returns : goal.returns
returns c = search part_written
