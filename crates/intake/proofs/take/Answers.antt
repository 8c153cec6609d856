-- `intake::take` meets its contract.
-- Assumes nothing.
use Rattle.intake.proofs.IntakeLaws.{stored_holds, stored_outcome, stored_table, refused_outcome, refused_table}
use Rattle.intake.proofs.ReadyLaws.{told_stored, taken_before, models_staged, steps_staged, roomy}
use borrow.Author.Rules.{rules}
use Rattle.intake.proofs.take.Goals as goal

pub store_text-requires : goal.store_text-requires
store_text-requires c = (
  c.read-read.ensures.0,
  λ k e. (c.read-read.ensures.1 k e).1,
  roomy
      c.model_room-models.ensures c.read-read.auto.models
      c.step_room-steps.ensures c.read-read.auto.steps
      c.map_room-maps.ensures c.read-read.auto.maps
      c.pin_room-pins.ensures c.read-read.auto.pins
      c.section_room-sections.ensures c.read-read.auto.sections
      c.matrix_room-matrices.ensures c.read-read.auto.matrices,
)

pub judge-requires : goal.judge-requires
judge-requires c = (
  stored_holds _ _ _ _ c.store_text.ensures.0 c.store_text.ensures.1 c.in-Stored.words (search rules),
  models_staged _ _ _ (told_stored _ _ c.read-read.ensures.0 c.read-read.ensures.1 _ _ c.store_text.ensures.0 c.in-Stored.words (search rules)).1.models_are c.model_room-models.ensures c.read-read.auto.models,
  steps_staged _ _ _ (told_stored _ _ c.read-read.ensures.0 c.read-read.ensures.1 _ _ c.store_text.ensures.0 c.in-Stored.words (search rules)).1.steps_are c.step_room-steps.ensures c.read-read.auto.steps,
  (told_stored _ _ c.read-read.ensures.0 c.read-read.ensures.1 _ _ c.store_text.ensures.0 c.in-Stored.words (search rules)).0,
)

pub returns-in-Stored : goal.returns-in-Stored
returns-in-Stored c = taken_before _ _ c.read-read.auto.table _ _ _ (search stored_outcome, search stored_table)

pub returns-in-Refused : goal.returns-in-Refused
returns-in-Refused c = taken_before _ _ c.read-read.auto.table _ _ _ (search refused_outcome, search refused_table)
