-- `ask_sound::is_fork_step` meets its contract: each `return` by the tests that led there.
-- Assumes nothing.
use Rattle.base.proofs.IfLaws.{chain}
use Rattle.ask_sound.specs.Sound.{is_fork_step}
use Rattle.ask_sound.proofs.is_fork_step.Goals as goal

pub returns-then-step-ne0 : goal.returns-then-step-ne0
unfolding is_fork_step
returns-then-step-ne0 c = search chain

pub returns-then-step-ne0-2 : goal.returns-then-step-ne0-2
unfolding is_fork_step
returns-then-step-ne0-2 c = search chain

pub returns : goal.returns
unfolding is_fork_step
returns c = search chain
