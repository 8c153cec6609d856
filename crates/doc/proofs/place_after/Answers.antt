-- `doc::place_after` meets its contract: by the first word of a line without a keyword where that counts, else by the keyword.
-- Assumes nothing.
use Rattle.doc.proofs.FoundLaws.{place_stays, place_plain, place_keyed}
use Rattle.doc.proofs.place_after.Goals as goal

pub returns-then-place-ne-MAP_HEAD : goal.returns-then-place-ne-MAP_HEAD
returns-then-place-ne-MAP_HEAD c = search place_stays

pub returns-then-line-eq-PLAIN : goal.returns-then-line-eq-PLAIN
returns-then-line-eq-PLAIN c = search place_plain

pub returns : goal.returns
returns c = search place_keyed
