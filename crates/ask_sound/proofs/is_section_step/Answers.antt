-- `ask_sound::is_section_step` meets its contract.
-- Assumes nothing.
use Rattle.ask_sound.proofs.RecordLaws.{section_none, section_unfit, section_fits}
use Rattle.ask_sound.proofs.is_section_step.Goals as goal

pub returns-then-counts-target : goal.returns-then-counts-target
returns-then-counts-target c = search section_none

pub returns-then-not-amount_fits : goal.returns-then-not-amount_fits
returns-then-not-amount_fits c = search section_unfit

pub returns : goal.returns
returns c = search section_fits
