-- `ask_sound::record::is_grid` meets its contract: each `return` by the tests that led there.
-- Assumes nothing.
use Rattle.base.proofs.IfLaws.{chain}
use Rattle.ask_sound.specs.Tests.{is_grid}
use Rattle.ask_sound.proofs.record.is_grid.Goals as goal

pub returns-then-rows-ne0 : goal.returns-then-rows-ne0
unfolding is_grid
returns-then-rows-ne0 c = search chain

pub returns-then-order-eq-UN_ORDERED : goal.returns-then-order-eq-UN_ORDERED
unfolding is_grid
returns-then-order-eq-UN_ORDERED c = search chain

pub returns-then-not-is_within : goal.returns-then-not-is_within
unfolding is_grid
returns-then-not-is_within c = search chain

pub returns : goal.returns
unfolding is_grid
returns c = search chain
