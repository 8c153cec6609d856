-- `line_place::is_in_model` meets its contract: each `return` by the places it was compared with.
-- Assumes nothing.
use Rattle.base.proofs.IfLaws.{chain}
use Rattle.line_place.specs.Place.{is_in_model}
use Rattle.line_place.proofs.is_in_model.Goals as goal

pub returns-then-place-eq-HEAD : goal.returns-then-place-eq-HEAD
unfolding is_in_model
returns-then-place-eq-HEAD c = search chain depth 12

pub returns-then-place-eq-PATH : goal.returns-then-place-eq-PATH
unfolding is_in_model
returns-then-place-eq-PATH c = search chain depth 12

pub returns : goal.returns
unfolding is_in_model
returns c = search chain depth 12
