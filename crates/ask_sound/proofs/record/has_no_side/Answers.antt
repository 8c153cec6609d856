-- `ask_sound::record::has_no_side` meets its contract: each `return` by the tests that led there.
-- Assumes nothing.
use Rattle.base.proofs.IfLaws.{chain}
use Rattle.ask_sound.specs.Tests.{has_no_side}
use Rattle.ask_sound.proofs.record.has_no_side.Goals as goal

pub returns-then-start-ne0 : goal.returns-then-start-ne0
unfolding has_no_side
returns-then-start-ne0 c = search chain

pub returns : goal.returns
unfolding has_no_side
returns c = search chain
