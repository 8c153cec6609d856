-- Document 01, "Listing": what icm-list prints for an accepted file, from the text and the table alone. "Table order;
-- fields: words used; model, type, steps; step kind, line, name, then amount (a Len as value) or Side; map, pins;
-- section, method, N; section, kind, row, column, value."
-- Assumes nothing.
use Rattle.std.specs.Prelude.{ℕ, zero, suc, ◌+◌, List, [], ◌∷◌, ◌++◌, length, get_or, eqb}
use Rattle.base.specs.If.{provided◌then◌else◌}
use Rattle.base.specs.Bytes.{bytes}
use Rattle.table_layout.specs.Layout.{models, steps, maps, sections}
use Rattle.table_layout.specs.Codes.{
  end_kind,
  section_kind,
  fork_kind,
  slm_general,
  slm_quiescent,
  mlm,
  lumped,
  distributed,
  resistance_kind,
  inductance_kind,
  conductance_kind,
  capacitance_kind,
}
use Rattle.table_record.specs.declared.ModelRecord.{ModelRecord}
use Rattle.table_record.specs.declared.StepRecord.{StepRecord}
use Rattle.table_record.specs.declared.MapRecord.{MapRecord}
use Rattle.table_record.specs.declared.SectionRecord.{SectionRecord}
use Rattle.table_record.specs.declared.Value.{Value}
use Rattle.table_record.specs.Records.{Records, no_model, no_step, no_map, no_section, no_matrix, no_value}
use Rattle.table_name.specs.Name.{name_at}
use Rattle.out_text.specs.Printing.{line_of, decimal, value_text}
use Rattle.out_listing.specs.Shown.{shown, kind_in, owner_of, values_in}

-- ---- words of the paper for the numbers in the table

unfoldable pub type_text : ℕ → List ℕ
type_text type =
    provided eqb type slm_general then bytes "SLM_general" else
    provided eqb type slm_quiescent then bytes "SLM_quiescent" else
    provided eqb type mlm then bytes "MLM" else []

unfoldable pub method_text : ℕ → List ℕ
method_text method = provided eqb method lumped then bytes "Lumped" else provided eqb method distributed then bytes "Distributed" else []

unfoldable pub kind_text : ℕ → List ℕ
kind_text kind =
    provided eqb kind resistance_kind then bytes "R" else
    provided eqb kind inductance_kind then bytes "L" else
    provided eqb kind conductance_kind then bytes "G" else
    provided eqb kind capacitance_kind then bytes "C" else []

-- the lines of `many` records from record i on
unfoldable pub listed_from : (ℕ → List ℕ) → ℕ → ℕ → List ℕ
listed_from line zero i = []
listed_from line (suc many) i = line i ++ listed_from line many (i + 1)

-- A step over a Lumped section has a Mult, printed as an integer; one over a Distributed section has a Len, printed as
-- a value (G3 of docs/READINGS.md).
unfoldable pub amount_text : ℕ → ℕ → List ℕ
amount_text method amount = provided eqb method lumped then decimal amount else value_text amount

-- ---- a line for each record; t is the text, r the records that the table shows

module _ (t : List ℕ) where
  unfoldable pub listed_model : ModelRecord → List ℕ
  listed_model m = line_of (name_at t m.start m.size ∷ type_text m.kind ∷ decimal m.steps ∷ [])

  unfoldable pub listed_map : MapRecord → List ℕ
  listed_map m = line_of (name_at t m.start m.size ∷ decimal m.pins ∷ [])

  unfoldable pub listed_section : SectionRecord → List ℕ
  listed_section s = line_of (name_at t s.start s.size ∷ method_text s.method ∷ decimal s.conductors ∷ [])

  -- a value, which belongs to the matrix of this kind of a section
  unfoldable pub listed_value : SectionRecord → ℕ → Value → List ℕ
  listed_value s kind v =
      line_of (name_at t s.start s.size ∷ kind_text kind ∷ decimal v.row ∷ decimal v.column ∷ value_text v.word ∷ [])

module _ (t : List ℕ) (r : Records) where
  abbrev pub target_map : StepRecord → MapRecord
  target_map s = get_or r.maps s.target no_map

  abbrev pub target_section : StepRecord → SectionRecord
  target_section s = get_or r.sections s.target no_section

  -- "then amount .. or Side": the last field, if there is one (G3 of docs/READINGS.md)
  unfoldable pub listed_end : StepRecord → List ℕ
  listed_end s =
      provided eqb s.side_size 0
      then line_of (bytes "end" ∷ decimal s.line ∷ name_at t (target_map s).start (target_map s).size ∷ [])
      else
      line_of
      (bytes "end"
      ∷ decimal s.line
      ∷ name_at t (target_map s).start (target_map s).size
      ∷ name_at t s.side s.side_size
      ∷ [])

  unfoldable pub listed_section_step : StepRecord → List ℕ
  listed_section_step s =
      line_of
      (bytes "section"
      ∷ decimal s.line
      ∷ name_at t (target_section s).start (target_section s).size
      ∷ amount_text (target_section s).method s.amount
      ∷ [])

  unfoldable pub listed_step : StepRecord → List ℕ
  listed_step s =
      provided eqb s.kind end_kind then listed_end s else
      provided eqb s.kind section_kind then listed_section_step s else
      provided eqb s.kind fork_kind then line_of (bytes "fork" ∷ decimal s.line ∷ []) else
      line_of (bytes "endfork" ∷ decimal s.line ∷ [])

  -- ---- all of them

  unfoldable pub listed_record : ℕ → ℕ → List ℕ
  listed_record part i =
      provided eqb part models then listed_model t (get_or r.models i no_model) else
      provided eqb part steps then listed_step (get_or r.steps i no_step) else
      provided eqb part maps then listed_map t (get_or r.maps i no_map) else listed_section t (get_or r.sections i no_section)

  -- a part: its name and how many records it has, then their lines
  unfoldable pub part_text : List ℕ → ℕ → ℕ → List ℕ
  part_text name part many = line_of (name ∷ decimal many ∷ []) ++ listed_from (listed_record part) many 0

  unfoldable pub all_parts_text : List ℕ
  all_parts_text =
      part_text (bytes "models") models (length r.models)
      ++ (part_text (bytes "steps") steps (length r.steps)
      ++ (part_text (bytes "maps") maps (length r.maps) ++ part_text (bytes "sections") sections (length r.sections)))

  abbrev pub owner_section : ℕ → SectionRecord
  owner_section j = get_or r.sections (owner_of r j) no_section

  -- the values of matrix j
  unfoldable pub matrix_text : ℕ → List ℕ
  matrix_text j =
      listed_from (λ (i : ℕ). listed_value t (owner_section j) (kind_in j (owner_section j)) (get_or r.values i no_value))
      (values_in r (get_or r.matrices j no_matrix))
      (get_or r.matrices j no_matrix).first

  unfoldable pub values_text : List ℕ
  values_text = line_of (bytes "values" ∷ decimal (length r.values) ∷ []) ++ listed_from matrix_text (length r.matrices) 0

unfoldable pub listing : List ℕ → List ℕ → ℕ → List ℕ
listing t table words = line_of (bytes "accepted" ∷ decimal words ∷ []) ++ (all_parts_text t (shown table) ++ values_text t (shown table))

-- "On refusal it prints `refused NO LINE`"
unfoldable pub refusal_text : ℕ → ℕ → List ℕ
refusal_text rule line = line_of (bytes "refused" ∷ decimal rule ∷ decimal line ∷ [])
