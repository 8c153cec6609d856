-- `ask_sound::is_step` meets its contract: each `return` by the tests that led there.
-- Assumes nothing.
use Rattle.base.proofs.IfLaws.{chain}
use Rattle.ask_sound.specs.Sound.{is_step}
use Rattle.ask_sound.proofs.is_step.Goals as goal

pub returns-then-kind-eq-END : goal.returns-then-kind-eq-END
unfolding is_step
returns-then-kind-eq-END c = search chain

pub returns-then-kind-eq-SECTION : goal.returns-then-kind-eq-SECTION
unfolding is_step
returns-then-kind-eq-SECTION c = search chain

pub returns-then-kind-ge-STEP_KINDS : goal.returns-then-kind-ge-STEP_KINDS
unfolding is_step
returns-then-kind-ge-STEP_KINDS c = search chain

pub returns : goal.returns
unfolding is_step
returns c = search chain
