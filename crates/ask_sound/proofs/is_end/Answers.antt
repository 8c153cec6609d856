-- `ask_sound::is_end` meets its contract: each `return` by the tests that led there.
-- Assumes nothing.
use Rattle.base.proofs.IfLaws.{chain}
use Rattle.ask_sound.specs.Sound.{is_end}
use Rattle.ask_sound.proofs.is_end.Goals as goal

pub returns-then-maps-step : goal.returns-then-maps-step
unfolding is_end
returns-then-maps-step c = search chain

pub returns-then-step-ne0 : goal.returns-then-step-ne0
unfolding is_end
returns-then-step-ne0 c = search chain

pub returns : goal.returns
unfolding is_end
returns c = search chain
