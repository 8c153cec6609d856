-- `ask_sound::is_pin` meets its contract: each `return` by the tests that led there.
-- Assumes nothing.
use Rattle.base.proofs.IfLaws.{chain}
use Rattle.ask_sound.specs.Sound.{is_pin}
use Rattle.ask_sound.proofs.is_pin.Goals as goal

pub returns : goal.returns
unfolding is_pin
returns c = search chain
