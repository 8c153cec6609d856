-- `ask_sound::record::is_name_in` meets its contract: each `return` by the tests that led there.
-- Assumes nothing.
use Rattle.base.proofs.IfLaws.{chain}
use Rattle.ask_sound.specs.Tests.{is_name_in}
use Rattle.ask_sound.proofs.record.is_name_in.Goals as goal

pub returns-then-not-is_within : goal.returns-then-not-is_within
unfolding is_name_in
returns-then-not-is_within c = search chain

pub returns : goal.returns
unfolding is_name_in
returns c = search chain
