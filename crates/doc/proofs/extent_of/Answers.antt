-- `doc::extent_of` meets its contract: no word, or the word where it stands.
-- Assumes nothing.
use Rattle.doc.proofs.ExtentLaws.{mark_none, mark_some}
use Rattle.doc.proofs.extent_of.Goals as goal

pub returns-then-s-word : goal.returns-then-s-word
returns-then-s-word c = search mark_none

pub returns : goal.returns
returns c = search mark_some
