-- `out_listing::put_name` meets its contract.
-- Assumes nothing.
use Rattle.out_listing.proofs.TextLaws.{field_told}
use Rattle.out_listing.proofs.put_name.Goals as goal

pub returns : goal.returns
returns c = search field_told
