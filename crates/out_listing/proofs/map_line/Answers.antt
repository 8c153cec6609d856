-- `out_listing::map_line` meets its contract.
-- Assumes nothing.
use Rattle.out_text.proofs.LineLaws.{line_two}
use Rattle.out_listing.specs.Listing.{listed_map}
use Rattle.out_listing.proofs.map_line.Goals as goal

pub returns : goal.returns
unfolding listed_map
returns c = search line_two
