-- `ask_sound::is_value` meets its contract: each `return` by the tests that led there.
-- Assumes nothing.
use Rattle.base.proofs.IfLaws.{chain}
use Rattle.ask_sound.specs.Sound.{is_value}
use Rattle.ask_sound.proofs.is_value.Goals as goal

pub returns : goal.returns
unfolding is_value
returns c = search chain
