-- Document 01, "The table": the records of a document, and its table. "Indexes and offsets from 0, lines from 1".
-- Assumes nothing.
use Rattle.std.specs.Prelude.{ℕ, zero, suc, ◌+◌, Bool, List, [], ◌∷◌, ◌++◌, map, length, ltb, eqb}
use Rattle.table_record.specs.declared.Value.{Value}
use Rattle.table_layout.specs.Codes.{end_kind, section_kind, resistance_kind, inductance_kind, conductance_kind, capacitance_kind}
use Rattle.base.specs.If.{provided◌then◌else◌, both}
use Rattle.base.specs.Runs.{same}
use Rattle.table_layout.specs.Layout.{layout}
use Rattle.table_record.specs.declared.ModelRecord.{ModelRecord}
use Rattle.table_record.specs.declared.StepRecord.{StepRecord}
use Rattle.table_record.specs.declared.MapRecord.{MapRecord}
use Rattle.table_record.specs.declared.PinRecord.{PinRecord}
use Rattle.table_record.specs.declared.SectionRecord.{SectionRecord}
use Rattle.table_record.specs.declared.MatrixRecord.{MatrixRecord}
use Rattle.table_record.specs.Records.{Records, parts_of}
use Rattle.doc.specs.Document.{Named, Step, Model, Map, Matrix, Section, Document, document_of, conductors_of}

-- the index of the first element that passes the test; the length of the list if none does
unfoldable pub index_of : {A : Type 0} → (A → Bool) → List A → ℕ
index_of test [] = zero
index_of test (x ∷ xs) = provided test x then zero else suc (index_of test xs)

-- "no pin map of that name on a later line": the map of an end is the first map of its name on a later line
unfoldable pub is_map_of : Step → Map → Bool
is_map_of s m = both (ltb s.line m.line) (same s.name.text m.name.text)

unfoldable pub is_section_of : Step → Section → Bool
is_section_of s x = same s.name.text x.name.text

-- "target or 0"
unfoldable pub target_of : List Map → List Section → Step → ℕ
target_of maps sections s =
    provided eqb s.kind end_kind then index_of (is_map_of s) maps else
    provided eqb s.kind section_kind then index_of (is_section_of s) sections else 0

unfoldable pub step_record : List Map → List Section → Step → StepRecord
step_record maps sections s =
    record {
      kind = s.kind;
      target = target_of maps sections s;
      amount = s.amount;
      side = s.side.start;
      side_size = length s.side.text;
      line = s.line;
    }

unfoldable pub step_records : List Map → List Section → List Model → List StepRecord
step_records maps sections [] = []
step_records maps sections (m ∷ ms) = map (step_record maps sections) m.steps ++ step_records maps sections ms

-- `first` is the index of its first step
unfoldable pub model_record : ℕ → Model → ModelRecord
model_record first m =
    record { start = m.name.start; size = length m.name.text; kind = m.type; first = first; steps = length m.steps }

unfoldable pub model_records : ℕ → List Model → List ModelRecord
model_records first [] = []
model_records first (m ∷ ms) = model_record first m ∷ model_records (first + length m.steps) ms

unfoldable pub pin_record : Named → PinRecord
pin_record p = record { start = p.name.start; size = length p.name.text }

unfoldable pub pin_records : List Map → List PinRecord
pin_records [] = []
pin_records (m ∷ ms) = map pin_record m.pins ++ pin_records ms

-- `first` is the index of its first pin
unfoldable pub map_record : ℕ → Map → MapRecord
map_record first m =
    record {
      start = m.name.start;
      size = length m.name.text;
      order = m.order;
      rows = m.rows;
      columns = m.columns;
      first = first;
      pins = length m.pins;
    }

unfoldable pub map_records : ℕ → List Map → List MapRecord
map_records first [] = []
map_records first (m ∷ ms) = map_record first m ∷ map_records (first + length m.pins) ms

-- "each matrix index plus 1 or 0": for a kind; `first` is the index of the first matrix
unfoldable pub index_of_kind : ℕ → ℕ → List Matrix → ℕ
index_of_kind kind first [] = 0
index_of_kind kind first (m ∷ ms) = provided eqb m.kind kind then first + 1 else index_of_kind kind (first + 1) ms

-- `first` is the index of its first matrix
unfoldable pub section_record : ℕ → Section → SectionRecord
section_record first s =
    record {
      start = s.name.start;
      size = length s.name.text;
      method = s.method;
      conductors = conductors_of s.matrices;
      resistance = index_of_kind resistance_kind first s.matrices;
      inductance = index_of_kind inductance_kind first s.matrices;
      conductance = index_of_kind conductance_kind first s.matrices;
      capacitance = index_of_kind capacitance_kind first s.matrices;
    }

unfoldable pub section_records : ℕ → List Section → List SectionRecord
section_records first [] = []
section_records first (s ∷ ss) = section_record first s ∷ section_records (first + length s.matrices) ss

unfoldable pub matrices_of : List Section → List Matrix
matrices_of [] = []
matrices_of (s ∷ ss) = s.matrices ++ matrices_of ss

-- `first` is the index of its first value
unfoldable pub matrix_record : ℕ → Matrix → MatrixRecord
matrix_record first m =
    record { form = m.form; bandwidth = m.bandwidth; first = first; values = length m.values; line = m.line }

unfoldable pub matrix_records : ℕ → List Matrix → List MatrixRecord
matrix_records first [] = []
matrix_records first (m ∷ ms) = matrix_record first m ∷ matrix_records (first + length m.values) ms

unfoldable pub values_of : List Matrix → List Value
values_of [] = []
values_of (m ∷ ms) = m.values ++ values_of ms

-- "records in text order"
unfoldable pub flatten : Document → Records
flatten d =
    record {
      models = model_records 0 d.models;
      steps = step_records d.maps d.sections d.models;
      maps = map_records 0 d.maps;
      pins = pin_records d.maps;
      sections = section_records 0 d.sections;
      matrices = matrix_records 0 (matrices_of d.sections);
      values = values_of (matrices_of d.sections);
    }

-- the words of the table of an accepted text, without the zeros after them
unfoldable pub table_of : List ℕ → List ℕ
table_of t = layout (parts_of (flatten (document_of t)))
