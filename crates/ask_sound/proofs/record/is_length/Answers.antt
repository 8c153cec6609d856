-- `ask_sound::record::is_length` meets its contract: each `return` by the tests that led there.
-- Assumes nothing.
use Rattle.base.proofs.IfLaws.{chain}
use Rattle.ask_sound.specs.Tests.{is_length_word}
use Rattle.ask_sound.proofs.record.is_length.Goals as goal

pub returns-then-not-is_value_word : goal.returns-then-not-is_value_word
unfolding is_length_word
returns-then-not-is_value_word c = search chain

pub returns-then-word-eq-ZERO : goal.returns-then-word-eq-ZERO
unfolding is_length_word
returns-then-word-eq-ZERO c = search chain

pub returns : goal.returns
unfolding is_length_word
returns c = search chain
