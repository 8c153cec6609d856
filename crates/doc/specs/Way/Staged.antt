-- What is staged of a text while its lines are judged, in the words of the document.
-- Assumes nothing.
use Rattle.std.specs.Prelude.{ℕ, ◌+◌, ◌*◌, ◌≤◌, ◌≡◌, Bool, true, false, List, [], ◌∷◌, ◌++◌, length}
use Rattle.table_layout.specs.Bounds.{most_models, most_steps}
use Rattle.table_layout.specs.Layout.{map_width, pin_width, section_width, matrix_width, value_width}
use Rattle.table_record.specs.Records.{map_words, pin_words, section_words, matrix_words, value_words}
use Rattle.table_record.specs.Way.Stage.{staged_model_width, staged_model_words, staged_step_width, staged_step_words, Whole}
use Rattle.table_record.specs.declared.stage.StagedModel.{StagedModel}
use Rattle.table_record.specs.declared.stage.StagedStep.{StagedStep}
use Rattle.doc.specs.Lines.{Line, lines_at, significant, gather}
use Rattle.doc.specs.Document.{Named, Step, Model, step_of, listed_at, pin_at, document_of}
use Rattle.doc.specs.declared.Cursor.{Cursor}
use Rattle.doc.specs.Records.{model_record, map_records, pin_record, section_records, matrices_of, matrix_records, values_of}

-- a model with the line of its SGR, which no record of the table has; `first` is the index of its first step
abbrev pub staged_model : ℕ → Model → StagedModel
staged_model first m = record { model = model_record first m; sgr = m.sgr }

unfoldable pub staged_models : ℕ → List Model → List StagedModel
staged_models first [] = []
staged_models first (m ∷ ms) = staged_model first m ∷ staged_models (first + length m.steps) ms

abbrev pub mult_word : Bool → ℕ
mult_word true = 1
mult_word false = 0

-- a step with its name, whose target is found when all lines are read, and whether its amount is a Mult
unfoldable pub staged_step : Step → StagedStep
staged_step s =
    record {
      kind = s.kind;
      name = s.name.start;
      name_size = length s.name.text;
      amount = s.amount;
      mult = mult_word s.mult;
      side = s.side.start;
      side_size = length s.side.text;
      line = s.line;
    }

abbrev pub step_staged : Step → List ℕ
step_staged s = staged_step_words (staged_step s)

abbrev pub pin_staged : Named → List ℕ
pin_staged p = pin_words (pin_record p)

-- the lines from a cursor on have the whole model list
pub record ListsFrom (t : List ℕ) (c : Cursor) : Type 0 where
  pub passed : List Line
  pub all : significant t ≡ passed ++ lines_at t c.line c.at c.place
  pub listed : (document_of t).listed ≡ gather listed_at (lines_at t c.line c.at c.place)
  pub within : c.at ≤ length t
  pub counted : c.line ≤ c.at + 1

-- all models of a text are staged, in a stage that has room for as many as a text may have; and all steps
pub record ModelsStaged (t models : List ℕ) : Type 0 where
  pub whole : Whole staged_model_words staged_model_width (staged_models 0 (document_of t).models) models
  pub room : staged_model_width * most_models ≤ length models

pub record StepsStaged (t steps : List ℕ) : Type 0 where
  pub whole : Whole step_staged staged_step_width (gather step_of (significant t)) steps
  pub room : staged_step_width * most_steps ≤ length steps

-- all records of a text are staged, each part in a stage of its own, and the values at the front of the table
pub record StagedText (t table models steps maps pins sections matrices : List ℕ) : Type 0 where
  pub models_are : Whole staged_model_words staged_model_width (staged_models 0 (document_of t).models) models
  pub steps_are : Whole step_staged staged_step_width (gather step_of (significant t)) steps
  pub maps_are : Whole map_words map_width (map_records 0 (document_of t).maps) maps
  pub pins_are : Whole pin_staged pin_width (gather pin_at (significant t)) pins
  pub sections_are : Whole section_words section_width (section_records 0 (document_of t).sections) sections
  pub matrices_are : Whole matrix_words matrix_width (matrix_records 0 (matrices_of (document_of t).sections)) matrices
  pub values_are : Whole value_words value_width (values_of (matrices_of (document_of t).sections)) table
