-- `ask_sound::is_section` meets its contract: each `return` by the tests that led there.
-- Assumes nothing.
use Rattle.base.proofs.IfLaws.{chain}
use Rattle.ask_sound.specs.Sound.{is_section}
use Rattle.ask_sound.proofs.is_section.Goals as goal

pub returns-then-not-is_name_in : goal.returns-then-not-is_name_in
unfolding is_section
returns-then-not-is_name_in c = search chain

pub returns-then-section-ge-METHODS : goal.returns-then-section-ge-METHODS
unfolding is_section
returns-then-section-ge-METHODS c = search chain

pub returns-then-not-is_within : goal.returns-then-not-is_within
unfolding is_section
returns-then-not-is_within c = search chain

pub returns : goal.returns
unfolding is_section
returns c = search chain
