-- Document 01, "The table", from "Sound": what a table must be for a text, so that questions about it have answers.
-- Every record is judged; lines are not. All sums are exact, none wraps.
-- Assumes nothing.
use Rattle.std.specs.Prelude.{Option, None, is_some, ℕ, ◌+◌, ◌-◌, Bool, true, List, [], ◌∷◌, map, length, drop, get_or, leb, ltb, eqb}
use Rattle.table_record.specs.Records.{Records, records_of, range}
use Rattle.table_record.specs.declared.Value.{Value}
use Rattle.table_record.specs.declared.MatrixRecord.{MatrixRecord}
use Rattle.table_record.specs.declared.SectionRecord.{SectionRecord}
use Rattle.table_record.specs.declared.PinRecord.{PinRecord}
use Rattle.table_record.specs.declared.MapRecord.{MapRecord}
use Rattle.table_record.specs.declared.StepRecord.{StepRecord}
use Rattle.table_record.specs.declared.ModelRecord.{ModelRecord}
use Rattle.table_layout.specs.Codes.{end_kind, section_kind, fork_kind, endfork_kind, step_kinds, model_types, map_orders, section_methods, matrix_forms}
use Rattle.table_layout.specs.Bounds.{deepest, most_map_pins, most_conductors}
use Rattle.base.specs.If.{provided◌then◌else◌, both}
use Rattle.base.specs.Bytes.{within}
use Rattle.lex_number.specs.ValueWord.{is_value_word}
use Rattle.doc.specs.Holds.{rises}
use Rattle.table_layout.specs.View.{placed, view_of}
use Rattle.table_layout.specs.declared.View.{View}
use Rattle.ask_sound.specs.Tests.{is_range, is_name_in, has_no_side, is_side, amount_fits, is_grid, is_bandwidth}

-- every element of the list passes the test
unfoldable pub every : {A : Type 0} → (A → Bool) → List A → Bool
every test [] = true
every test (x ∷ xs) = both (test x) (every test xs)

-- ---- models

-- whether a step of this kind is allowed where d forks are open, and how many are open after it: a fork opens
-- one more, an endfork closes one
unfoldable pub depth_stays : ℕ → ℕ → Bool
depth_stays d kind = provided eqb kind fork_kind then ltb d deepest else provided eqb kind endfork_kind then ltb 0 d else true

unfoldable pub depth_after : ℕ → ℕ → ℕ
depth_after d kind = provided eqb kind fork_kind then d + 1 else provided eqb kind endfork_kind then d - 1 else d

-- "each model's depth stays 0 to 8 and ends at 0": along steps of these kinds, where d forks are open before the first
unfoldable pub depth_holds : ℕ → List ℕ → Bool
depth_holds d [] = eqb d 0
depth_holds d (kind ∷ kinds) = both (depth_stays d kind) (depth_holds (depth_after d kind) kinds)

-- `bytes` is the length of the text, here and below; `kinds` are the kinds of all steps of the table
unfoldable pub is_model : ℕ → List ℕ → ModelRecord → Bool
is_model bytes kinds m =
    both (is_name_in bytes m.start m.size)
    (both (ltb m.kind model_types)
    (both (is_range m.first m.steps (length kinds)) (depth_holds 0 (range m.first m.steps kinds))))

-- ---- steps

-- `maps` is the number of maps
unfoldable pub is_end : ℕ → ℕ → StepRecord → Bool
is_end bytes maps s = both (ltb s.target maps) (both (eqb s.amount 0) (is_side bytes s.side s.side_size))

-- `methods` are the methods of all sections
unfoldable pub is_section_step : List ℕ → StepRecord → Bool
is_section_step methods s =
    both (ltb s.target (length methods))
    (both (amount_fits (get_or methods s.target 0) s.amount) (has_no_side s.side s.side_size))

-- "words told to be 0 are 0": a fork's and an endfork's target, amount and side
unfoldable pub is_fork_step : StepRecord → Bool
is_fork_step s = both (eqb s.target 0) (both (eqb s.amount 0) (has_no_side s.side s.side_size))

unfoldable pub is_step : ℕ → ℕ → List ℕ → StepRecord → Bool
is_step bytes maps methods s =
    provided eqb s.kind end_kind then is_end bytes maps s else
    provided eqb s.kind section_kind then is_section_step methods s else
    both (ltb s.kind step_kinds) (is_fork_step s)

-- ---- maps and pins

-- `pins` is the number of pins of all maps; "256 a map"
unfoldable pub is_map : ℕ → ℕ → MapRecord → Bool
is_map bytes pins m =
    both (is_name_in bytes m.start m.size)
    (both (ltb m.order map_orders)
    (both (is_grid m.order m.rows m.columns) (both (is_range m.first m.pins pins) (leb m.pins most_map_pins))))

unfoldable pub is_pin : ℕ → PinRecord → Bool
is_pin bytes p = is_name_in bytes p.start p.size

-- ---- sections, matrices and values

-- "R L G C each matrix index plus 1 or 0"; `matrices` is the number of matrices
unfoldable pub are_matrices : ℕ → SectionRecord → Bool
are_matrices matrices s =
    both (leb s.resistance matrices)
    (both (leb s.inductance matrices) (both (leb s.conductance matrices) (leb s.capacitance matrices)))

unfoldable pub is_section : ℕ → ℕ → SectionRecord → Bool
is_section bytes matrices s =
    both (is_name_in bytes s.start s.size)
    (both (ltb s.method section_methods) (both (within 1 most_conductors s.conductors) (are_matrices matrices s)))

-- "a matrix's values rising strictly with 1 <= row <= column <= 256"; `values` are all values of the table
unfoldable pub is_matrix : List Value → MatrixRecord → Bool
is_matrix values m =
    both (ltb m.form matrix_forms)
    (both (is_bandwidth m.form m.bandwidth)
    (both (is_range m.first m.values (length values)) (rises most_conductors (range m.first m.values values))))

-- "value words as above"
unfoldable pub is_value : Value → Bool
is_value v = is_value_word v.word

-- ---- the whole

unfoldable pub record_kinds : List StepRecord → List ℕ
record_kinds steps = map (λ (s : StepRecord). s.kind) steps

unfoldable pub methods_of : List SectionRecord → List ℕ
methods_of sections = map (λ (s : SectionRecord). s.method) sections

-- all records of a table are sound
unfoldable pub are_sound : ℕ → Records → Bool
are_sound bytes r =
    both (every (is_model bytes (record_kinds r.steps)) r.models)
    (both (every (is_step bytes (length r.maps) (methods_of r.sections)) r.steps)
    (both (every (is_map bytes (length r.pins)) r.maps)
    (both (every (is_pin bytes) r.pins)
    (both (every (is_section bytes (length r.matrices)) r.sections)
    (both (every (is_matrix r.values) r.matrices) (every is_value r.values))))))

unfoldable pub are_zeros : List ℕ → Bool
are_zeros words = every (λ (w : ℕ). eqb w 0) words

-- "counts within bounds (matrices 1,024) and the table long enough, all words after zero"
unfoldable pub is_sound : List ℕ → List ℕ → Bool
is_sound t table =
    both (is_some (view_of table)) (both (are_zeros (drop (placed table).end table)) (are_sound (length t) (records_of table)))

-- the view of a sound table, so that questions need not take it again; of any other table, none
unfoldable pub sound_view : List ℕ → List ℕ → Option View
sound_view t table = provided is_sound t table then view_of table else None
