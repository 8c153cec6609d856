-- `line_place::is_in_header` meets its contract: each `return` by the places it was compared with.
-- Assumes nothing.
use Rattle.base.proofs.IfLaws.{chain}
use Rattle.line_place.specs.Place.{is_in_header}
use Rattle.line_place.proofs.is_in_header.Goals as goal

pub returns-then-place-eq-HEADER : goal.returns-then-place-eq-HEADER
unfolding is_in_header
returns-then-place-eq-HEADER c = search chain depth 12

pub returns : goal.returns
unfolding is_in_header
returns c = search chain depth 12
