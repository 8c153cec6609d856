-- `line_place::is_in_family` meets its contract: each `return` by the places it was compared with.
-- Assumes nothing.
use Rattle.base.proofs.IfLaws.{chain}
use Rattle.line_place.specs.Place.{is_in_family}
use Rattle.line_place.proofs.is_in_family.Goals as goal

pub returns-then-place-eq-FAMILY : goal.returns-then-place-eq-FAMILY
unfolding is_in_family
returns-then-place-eq-FAMILY c = search chain depth 12

pub returns-then-place-eq-FAMILY_TEXT : goal.returns-then-place-eq-FAMILY_TEXT
unfolding is_in_family
returns-then-place-eq-FAMILY_TEXT c = search chain depth 12

pub returns-then-place-eq-LIST : goal.returns-then-place-eq-LIST
unfolding is_in_family
returns-then-place-eq-LIST c = search chain depth 12

pub returns-then-place-eq-MAP_HEAD : goal.returns-then-place-eq-MAP_HEAD
unfolding is_in_family
returns-then-place-eq-MAP_HEAD c = search chain depth 12

pub returns : goal.returns
unfolding is_in_family
returns c = search chain depth 12
