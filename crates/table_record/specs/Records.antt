-- Document 01, "The table": the records of the parts, with each field in the paper's words, as words of a table and back.
-- "Indexes and offsets from 0, lines from 1, enumerations in the order listed above".
-- Assumes nothing.
use Rattle.std.specs.Prelude.{ℕ, List, [], ◌∷◌, map, take, drop, get_or}
use Rattle.table_layout.specs.Layout.{models, steps, maps, pins, sections, matrices, values, widths, parts_in}
use Rattle.table_record.specs.declared.ModelRecord.{ModelRecord}
use Rattle.table_record.specs.declared.StepRecord.{StepRecord}
use Rattle.table_record.specs.declared.MapRecord.{MapRecord}
use Rattle.table_record.specs.declared.PinRecord.{PinRecord}
use Rattle.table_record.specs.declared.SectionRecord.{SectionRecord}
use Rattle.table_record.specs.declared.MatrixRecord.{MatrixRecord}
use Rattle.table_record.specs.declared.Value.{Value}

-- all records of a table
pub record Records : Type 0 where
  pub models : List ModelRecord
  pub steps : List StepRecord
  pub maps : List MapRecord
  pub pins : List PinRecord
  pub sections : List SectionRecord
  pub matrices : List MatrixRecord
  pub values : List Value

-- ---- records as words

-- "models (name start, length, type, first step, steps)"
abbrev pub model_words : ModelRecord → List ℕ
model_words r = r.start ∷ r.size ∷ r.kind ∷ r.first ∷ r.steps ∷ []

-- "steps (kind 0 end 1 section 2 fork 3 endfork; target or 0; amount: Mult, the Len value word, or 0; side start and length or
-- 0 0; line)"
abbrev pub step_words : StepRecord → List ℕ
step_words r = r.kind ∷ r.target ∷ r.amount ∷ r.side ∷ r.side_size ∷ r.line ∷ []

-- "maps (start, length, order, rows, columns, first pin, pins; Un_ordered has 0 0 for rows, columns)"
abbrev pub map_words : MapRecord → List ℕ
map_words r = r.start ∷ r.size ∷ r.order ∷ r.rows ∷ r.columns ∷ r.first ∷ r.pins ∷ []

-- "pins (start, length)"
abbrev pub pin_words : PinRecord → List ℕ
pin_words r = r.start ∷ r.size ∷ []

-- "sections (start, length, method, N, R L G C each matrix index plus 1 or 0)"
abbrev pub section_words : SectionRecord → List ℕ
section_words r = r.start ∷ r.size ∷ r.method ∷ r.conductors ∷ r.resistance ∷ r.inductance ∷ r.conductance ∷ r.capacitance ∷ []

-- "matrices (form 0 diagonal 1 banded 2 sparse 3 full, bandwidth or 0, first value, values, line)"
abbrev pub matrix_words : MatrixRecord → List ℕ
matrix_words r = r.form ∷ r.bandwidth ∷ r.first ∷ r.values ∷ r.line ∷ []

-- "values (row, column, value word), one per number written"
abbrev pub value_words : Value → List ℕ
value_words v = v.row ∷ v.column ∷ v.word ∷ []

-- "Parts in this order"
unfoldable pub parts_of : Records → List (List (List ℕ))
parts_of r =
    map model_words r.models
    ∷ map step_words r.steps
    ∷ map map_words r.maps
    ∷ map pin_words r.pins
    ∷ map section_words r.sections
    ∷ map matrix_words r.matrices
    ∷ map value_words r.values
    ∷ []

-- ---- and back

-- each record by its words: the first of them, and the n-th of the others for every n
abbrev pub model_by : ℕ → (ℕ → ℕ) → ModelRecord
model_by first later = record { start = first; size = later 1; kind = later 2; first = later 3; steps = later 4 }

abbrev pub step_by : ℕ → (ℕ → ℕ) → StepRecord
step_by first later = record { kind = first; target = later 1; amount = later 2; side = later 3; side_size = later 4; line = later 5 }

abbrev pub map_by : ℕ → (ℕ → ℕ) → MapRecord
map_by first later = record { start = first; size = later 1; order = later 2; rows = later 3; columns = later 4; first = later 5; pins = later 6 }

abbrev pub pin_by : ℕ → (ℕ → ℕ) → PinRecord
pin_by first later = record { start = first; size = later 1 }

abbrev pub section_by : ℕ → (ℕ → ℕ) → SectionRecord
section_by first later = record { start = first; size = later 1; method = later 2; conductors = later 3; resistance = later 4; inductance = later 5; conductance = later 6; capacitance = later 7 }

abbrev pub matrix_by : ℕ → (ℕ → ℕ) → MatrixRecord
matrix_by first later = record { form = first; bandwidth = later 1; first = later 2; values = later 3; line = later 4 }

abbrev pub value_by : ℕ → (ℕ → ℕ) → Value
value_by first later = record { row = first; column = later 1; word = later 2 }

-- the n-th word of a record
abbrev pub word : ℕ → List ℕ → ℕ
word n r = get_or r n 0

abbrev pub to_model : List ℕ → ModelRecord
to_model r = model_by (word 0 r) (λ (n : ℕ). word n r)

abbrev pub to_step : List ℕ → StepRecord
to_step r = step_by (word 0 r) (λ (n : ℕ). word n r)

abbrev pub to_map : List ℕ → MapRecord
to_map r = map_by (word 0 r) (λ (n : ℕ). word n r)

abbrev pub to_pin : List ℕ → PinRecord
to_pin r = pin_by (word 0 r) (λ (n : ℕ). word n r)

abbrev pub to_section : List ℕ → SectionRecord
to_section r = section_by (word 0 r) (λ (n : ℕ). word n r)

abbrev pub to_matrix : List ℕ → MatrixRecord
to_matrix r = matrix_by (word 0 r) (λ (n : ℕ). word n r)

abbrev pub to_value : List ℕ → Value
to_value r = value_by (word 0 r) (λ (n : ℕ). word n r)

abbrev pub part : ℕ → List (List (List ℕ)) → List (List ℕ)
part n parts = get_or parts n []

unfoldable pub records_in : List (List (List ℕ)) → Records
records_in parts =
    record {
      models = map to_model (part models parts);
      steps = map to_step (part steps parts);
      maps = map to_map (part maps parts);
      pins = map to_pin (part pins parts);
      sections = map to_section (part sections parts);
      matrices = map to_matrix (part matrices parts);
      values = map to_value (part values parts);
    }

-- the records that a table holds
unfoldable pub records_of : List ℕ → Records
records_of t = records_in (parts_in widths t)

-- the elements of a range: `many` of them from `first` on
abbrev pub range : {A : Type 0} → ℕ → ℕ → List A → List A
range first many xs = take many (drop first xs)

-- ---- the defaults for an index past the last record: all words are 0. They reach no answer

abbrev pub no_model : ModelRecord
no_model = to_model []

abbrev pub no_step : StepRecord
no_step = to_step []

abbrev pub no_map : MapRecord
no_map = to_map []

abbrev pub no_section : SectionRecord
no_section = to_section []

abbrev pub no_matrix : MatrixRecord
no_matrix = to_matrix []

abbrev pub no_value : Value
no_value = to_value []

abbrev pub no_records : Records
no_records = record { models = []; steps = []; maps = []; pins = []; sections = []; matrices = []; values = [] }
