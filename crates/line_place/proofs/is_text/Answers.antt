-- `line_place::is_text` meets its contract: each `return` by the places it was compared with.
-- Assumes nothing.
use Rattle.base.proofs.IfLaws.{chain}
use Rattle.line_place.specs.Place.{is_text}
use Rattle.line_place.proofs.is_text.Goals as goal

pub returns-then-place-eq-HEADER_TEXT : goal.returns-then-place-eq-HEADER_TEXT
unfolding is_text
returns-then-place-eq-HEADER_TEXT c = search chain depth 12

pub returns-then-place-eq-FAMILY_TEXT : goal.returns-then-place-eq-FAMILY_TEXT
unfolding is_text
returns-then-place-eq-FAMILY_TEXT c = search chain depth 12

pub returns : goal.returns
unfolding is_text
returns c = search chain depth 12
