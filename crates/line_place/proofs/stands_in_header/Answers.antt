-- `line_place::stands_in_header` meets its contract: each `return` by the keywords it was compared with.
-- Assumes nothing.
use Rattle.base.proofs.IfLaws.{chain}
use Rattle.line_place.specs.Place.{stands_in_header}
use Rattle.line_place.proofs.stands_in_header.Goals as goal

pub returns-then-key-eq-FILE_NAME : goal.returns-then-key-eq-FILE_NAME
unfolding stands_in_header
returns-then-key-eq-FILE_NAME c = search chain depth 12

pub returns-then-key-eq-FILE_REV : goal.returns-then-key-eq-FILE_REV
unfolding stands_in_header
returns-then-key-eq-FILE_REV c = search chain depth 12

pub returns-then-key-eq-DATE : goal.returns-then-key-eq-DATE
unfolding stands_in_header
returns-then-key-eq-DATE c = search chain depth 12

pub returns : goal.returns
unfolding stands_in_header
returns c = search chain depth 12
