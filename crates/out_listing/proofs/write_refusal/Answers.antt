-- `out_listing::write_refusal` meets its contract.
-- Assumes nothing.
use Rattle.out_text.proofs.LineLaws.{line_three}
use Rattle.out_listing.specs.Listing.{refusal_text}
use Rattle.out_listing.proofs.write_refusal.Goals as goal

pub returns : goal.returns
unfolding refusal_text
returns c = search line_three
