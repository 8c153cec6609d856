-- What stands in a table before its values: every other part behind its count, taken from the stages, and the count of the
-- values.
-- Assumes nothing.
use Rattle.std.specs.Prelude.{ℕ, ◌+◌, ◌*◌, ◌≤◌, List, [], ◌∷◌, ◌++◌, length, take}
use Rattle.table_layout.specs.Layout.{model_width, step_width, map_width, pin_width, section_width, matrix_width}
use Rattle.table_record.specs.Records.{model_words, step_words}
use Rattle.table_record.specs.Way.Stage.{words_of, staged_from, staged_model_width, staged_model_at, staged_step_width, staged_step_at}
use Rattle.table_record.specs.declared.stage.StagedModel.{StagedModel}
use Rattle.table_record.specs.declared.stage.StagedStep.{StagedStep}
use Rattle.line_keyword.specs.declared.Counts.{Counts}
use Rattle.store_table.specs.Way.Targets.{Targets, record_found}

-- a part: its count, and the words of so many staged records
unfoldable pub part_words : ℕ → ℕ → List ℕ → List ℕ
part_words width count stage = count ∷ take (width * count) stage

-- the maps and sections that steps point at
abbrev pub targets_of : Counts → List ℕ → List ℕ → Targets
targets_of c maps sections = record { maps = maps; map_count = c.maps; sections = sections; section_count = c.sections }

-- models are stored without the line of their SGR, steps with what they point at
abbrev pub model_stored : StagedModel → List ℕ
model_stored m = model_words m.model

abbrev pub step_stored : List ℕ → Targets → StagedStep → List ℕ
step_stored t x s = step_words (record_found t x s)

unfoldable pub models_words : ℕ → List ℕ → List ℕ
models_words count models = count ∷ words_of model_stored (staged_from (staged_model_at models) staged_model_width 0 count)

unfoldable pub steps_words : List ℕ → Targets → ℕ → List ℕ → List ℕ
steps_words t x count steps = count ∷ words_of (step_stored t x) (staged_from (staged_step_at steps) staged_step_width 0 count)

unfoldable pub family_words : List ℕ → Counts → List ℕ → List ℕ → List ℕ → List ℕ → List ℕ → List ℕ
family_words t c models steps maps pins sections =
    models_words c.models models
    ++ (steps_words t (targets_of c maps sections) c.steps steps ++ (part_words map_width c.maps maps ++ part_words pin_width c.pins pins))

unfoldable pub sections_words : Counts → List ℕ → List ℕ → List ℕ
sections_words c sections matrices =
    part_words section_width c.sections sections ++ (part_words matrix_width c.matrices matrices ++ (c.values ∷ []))

-- how many words the family takes, and how many stand before the values
abbrev pub family_long : Counts → ℕ
family_long c = 1 + model_width * c.models + (1 + step_width * c.steps) + (1 + map_width * c.maps) + (1 + pin_width * c.pins)

abbrev pub sections_long : Counts → ℕ
sections_long c = 1 + section_width * c.sections + (1 + matrix_width * c.matrices) + 1

-- the records of the family that are counted lie in their stages, and so do the sections that steps point at
pub record FamilyThere (c : Counts) (models steps maps pins sections : List ℕ) : Type 0 where
  pub models_there : staged_model_width * c.models ≤ length models
  pub steps_there : staged_step_width * c.steps ≤ length steps
  pub maps_there : map_width * c.maps ≤ length maps
  pub pins_there : pin_width * c.pins ≤ length pins
  pub sections_there : section_width * c.sections ≤ length sections
