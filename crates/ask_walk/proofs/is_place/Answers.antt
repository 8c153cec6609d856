-- `ask_walk::is_place` meets its contract.
-- Assumes nothing.
use Rattle.ask_walk.proofs.PlaceLaws.{place_none, place_past, place_deep, before_product, before_sum, before_room}
use Rattle.ask_walk.proofs.PlaceLaws.{before_product, before_sum}
use Rattle.ask_walk.proofs.is_place.Goals as goal

pub returns-then-counts-place : goal.returns-then-counts-place
returns-then-counts-place c = search place_none

pub returns-then-model-place : goal.returns-then-model-place
returns-then-model-place c = search place_past

pub overflow_mul-from : goal.overflow_mul-from
overflow_mul-from c = search before_product

pub overflow_add-from : goal.overflow_add-from
overflow_add-from c = search before_sum

pub is_depth-requires : goal.is_depth-requires
is_depth-requires c = search before_room

pub returns : goal.returns
returns c = search place_deep
