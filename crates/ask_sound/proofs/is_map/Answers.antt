-- `ask_sound::is_map` meets its contract: each `return` by the tests that led there.
-- Assumes nothing.
use Rattle.base.proofs.IfLaws.{chain}
use Rattle.ask_sound.specs.Sound.{is_map}
use Rattle.ask_sound.proofs.is_map.Goals as goal

pub returns-then-not-is_name_in : goal.returns-then-not-is_name_in
unfolding is_map
returns-then-not-is_name_in c = search chain

pub returns-then-map-ge-ORDERS : goal.returns-then-map-ge-ORDERS
unfolding is_map
returns-then-map-ge-ORDERS c = search chain

pub returns-then-not-is_grid : goal.returns-then-not-is_grid
unfolding is_map
returns-then-not-is_grid c = search chain

pub returns-then-not-is_range : goal.returns-then-not-is_range
unfolding is_map
returns-then-not-is_range c = search chain

pub returns : goal.returns
unfolding is_map
returns c = search chain
