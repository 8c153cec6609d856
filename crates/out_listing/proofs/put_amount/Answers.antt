-- `out_listing::put_amount` meets its contract.
-- Assumes nothing.
use Rattle.base.proofs.IfLaws.{tests}
use Rattle.out_listing.specs.Listing.{amount_text}
use Rattle.out_listing.proofs.TextLaws.{text_yes, text_no}
use Rattle.out_listing.proofs.put_amount.Goals as goal

pub returns-then-method-eq-LUMPED : goal.returns-then-method-eq-LUMPED
unfolding amount_text
returns-then-method-eq-LUMPED c = search (text_yes, text_no, tests) depth 12

pub returns-else-method-eq-LUMPED : goal.returns-else-method-eq-LUMPED
unfolding amount_text
returns-else-method-eq-LUMPED c = search (text_yes, text_no, tests) depth 12
