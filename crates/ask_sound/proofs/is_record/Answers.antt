-- `ask_sound::is_record` meets its contract: each `return` by the tests that led there.
-- Assumes nothing.
use Rattle.ask_sound.proofs.RecordLaws.{model_fits, step_fits, map_fits, pin_fits, section_fits_in, matrix_fits, matrix_record_lem, value_fits, value_record}
use Rattle.ask_sound.proofs.RecordLaws.{model_record_lem, step_record_lem, map_record_lem, pin_record_lem, section_record_lem, matrix_record_lem, value_record, no_record}
use Rattle.ask_sound.proofs.is_record.Goals as goal

pub at-requires : goal.at-requires
at-requires c = search model_fits

pub returns-then-part-eq-MODELS : goal.returns-then-part-eq-MODELS
returns-then-part-eq-MODELS c = search model_record_lem

pub at-requires-then-part-eq-STEPS : goal.at-requires-then-part-eq-STEPS
at-requires-then-part-eq-STEPS c = search step_fits

pub returns-then-part-eq-STEPS : goal.returns-then-part-eq-STEPS
returns-then-part-eq-STEPS c = search step_record_lem

pub at-requires-then-part-eq-MAPS : goal.at-requires-then-part-eq-MAPS
at-requires-then-part-eq-MAPS c = search map_fits

pub returns-then-part-eq-MAPS : goal.returns-then-part-eq-MAPS
returns-then-part-eq-MAPS c = search map_record_lem

pub at-requires-then-part-eq-PINS : goal.at-requires-then-part-eq-PINS
at-requires-then-part-eq-PINS c = search pin_fits

pub returns-then-part-eq-PINS : goal.returns-then-part-eq-PINS
returns-then-part-eq-PINS c = search pin_record_lem

pub at-section-requires : goal.at-section-requires
at-section-requires c = search section_fits_in

pub returns-then-part-eq-SECTIONS : goal.returns-then-part-eq-SECTIONS
returns-then-part-eq-SECTIONS c = search section_record_lem

pub at-requires-then-part-eq-MATRICES : goal.at-requires-then-part-eq-MATRICES
at-requires-then-part-eq-MATRICES c = search matrix_fits

pub returns-then-part-eq-MATRICES : goal.returns-then-part-eq-MATRICES
returns-then-part-eq-MATRICES c = search matrix_record_lem

pub at-requires-then-part-eq-VALUES : goal.at-requires-then-part-eq-VALUES
at-requires-then-part-eq-VALUES c = search value_fits

pub returns-then-part-eq-VALUES : goal.returns-then-part-eq-VALUES
returns-then-part-eq-VALUES c = search value_record

pub returns : goal.returns
returns c = search no_record
