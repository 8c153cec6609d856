-- `out_listing::end_line` meets its contract: with its Side if it has one.
-- Assumes nothing.
use Rattle.out_listing.proofs.TextLaws.{end_written, end_with_side}
use Rattle.out_listing.proofs.end_line.Goals as goal

pub returns-then-step-eq0 : goal.returns-then-step-eq0
returns-then-step-eq0 c = search end_written

pub returns-else-step-eq0 : goal.returns-else-step-eq0
returns-else-step-eq0 c = search end_with_side
