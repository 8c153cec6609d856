use Rattle.out_listing.proofs.OwnerLaws.{owner_starts, owner_found, owner_on, owner_none}
use Rattle.out_listing.proofs.ShownLaws.{sections_shown}
use Rattle.out_listing.proofs.owner_of.Goals as goal

pub loop-i-init : goal.loop-i-init
loop-i-init c = search (owner_starts, sections_shown)

pub returns-then-kind-lt-MATRIX_KINDS : goal.returns-then-kind-lt-MATRIX_KINDS
returns-then-kind-lt-MATRIX_KINDS c = search owner_found

pub loop-i-preserved : goal.loop-i-preserved
loop-i-preserved c = search owner_on

pub returns : goal.returns
returns c = search owner_none
