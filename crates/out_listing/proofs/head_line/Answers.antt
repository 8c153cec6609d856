-- `out_listing::head_line` meets its contract.
-- Assumes nothing.
use Rattle.out_text.proofs.LineLaws.{line_two}
use Rattle.out_listing.proofs.head_line.Goals as goal

pub returns : goal.returns
returns c = search line_two
