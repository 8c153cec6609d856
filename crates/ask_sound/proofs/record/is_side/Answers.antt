-- `ask_sound::record::is_side` meets its contract: each `return` by the tests that led there.
-- Assumes nothing.
use Rattle.base.proofs.IfLaws.{chain}
use Rattle.ask_sound.specs.Tests.{is_side}
use Rattle.ask_sound.proofs.record.is_side.Goals as goal

pub returns-then-has_no_side : goal.returns-then-has_no_side
unfolding is_side
returns-then-has_no_side c = search chain

pub returns : goal.returns
unfolding is_side
returns c = search chain
