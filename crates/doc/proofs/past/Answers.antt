-- `doc::past` meets its contract.
-- Assumes nothing.
use Rattle.doc.proofs.FoundLaws.{past_is}
use Rattle.doc.proofs.past.Goals as goal

pub returns : goal.returns
returns c = search past_is
