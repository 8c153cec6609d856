-- Rules 21 to 26 of a step by the records of the table: the step's own record, those of the earlier steps of its model,
-- and those of the maps, sections and matrices that they refer to.
-- Assumes nothing.
use Rattle.std.specs.Prelude.{ℕ, ◌+◌, ◌-◌, ◌≤◌, ◌<◌, Bool, not, List, [], ◌∷◌, length, get_or, ltb, eqb}
use Rattle.base.specs.If.{provided◌then◌else◌, both, either}
use Rattle.base.specs.Runs.{same}
use Rattle.base.specs.Broken.{◌when◌, first_broken}
use Rattle.base.specs.Refusal as refusal
use Rattle.table_layout.specs.Codes.{diagonal, end_kind, section_kind, mlm, lumped, distributed}
use Rattle.table_layout.specs.Layout.{sections, matrices}
use Rattle.table_layout.specs.declared.View.{View}
use Rattle.table_record.specs.Records.{Records, records_of, range, no_map, no_section}
use Rattle.table_record.specs.Way.Standing.{count_of, Rooms}
use Rattle.table_record.specs.declared.StepRecord.{StepRecord}
use Rattle.table_record.specs.declared.MapRecord.{MapRecord}
use Rattle.table_record.specs.declared.SectionRecord.{SectionRecord}
use Rattle.table_record.specs.declared.MatrixRecord.{MatrixRecord}
use Rattle.table_name.specs.Name.{name_at}
use Rattle.cross_rules.specs.Rules.{any}
use Rattle.cross_steps.specs.declared.Owner.{Owner}

-- ---- "22 SIDE": two ends

unfoldable pub side_of : List ℕ → StepRecord → List ℕ
side_of t s = name_at t s.side s.side_size

unfoldable pub clashing : List ℕ → StepRecord → StepRecord → Bool
clashing t other own =
    either (eqb other.side_size 0) (either (eqb own.side_size 0) (same (side_of t other) (side_of t own)))

-- `other` is an end on the same map, and the Sides clash
unfoldable pub meeting : List ℕ → StepRecord → StepRecord → Bool
meeting t other own = both (eqb other.kind end_kind) (both (eqb other.target own.target) (clashing t other own))

-- one of the steps clashes with the end
unfoldable pub meets_above : List ℕ → StepRecord → List StepRecord → Bool
meets_above t own above = any (λ (other : StepRecord). meeting t other own) above

-- ---- "26 COUNT"

-- the target of the first end among the steps; `none` if there is no end
unfoldable pub first_target : ℕ → List StepRecord → ℕ
first_target none [] = none
first_target none (s ∷ ss) = provided eqb s.kind end_kind then s.target else first_target none ss

abbrev pub map_of : Records → ℕ → MapRecord
map_of r i = get_or r.maps i no_map

unfoldable pub differs_from : Records → ℕ → ℕ → Bool
differs_from r first many = both (ltb first (length r.maps)) (not (eqb many (map_of r first).pins))

-- ---- "25 KIND"

-- the lesser of two numbers, where 0 says that none is given
unfoldable pub lesser_given : ℕ → ℕ → ℕ
lesser_given a b = provided eqb a 0 then b else provided eqb b 0 then a else provided ltb b a then b else a

-- of "R L G C each matrix index plus 1 or 0"
unfoldable pub least_of : SectionRecord → ℕ
least_of s = lesser_given (lesser_given s.resistance s.inductance) (lesser_given s.conductance s.capacitance)

abbrev pub section_of : Records → ℕ → SectionRecord
section_of r i = get_or r.sections i no_section

-- the index of the first matrix of section i; after the last section, the number of matrices
unfoldable pub first_matrix : Records → ℕ → ℕ
first_matrix r i = provided ltb i (length r.sections) then least_of (section_of r i) - 1 else length r.matrices

-- one of the matrices is not a Diagonal_matrix
unfoldable pub other_in : List MatrixRecord → Bool
other_in ms = any (λ (m : MatrixRecord). not (eqb m.form diagonal)) ms

unfoldable pub other_form : Records → ℕ → Bool
other_form r i = other_in (range (first_matrix r i) (first_matrix r (i + 1) - first_matrix r i) r.matrices)

-- of an SLM model
unfoldable pub kind_broken : Records → ℕ → ℕ → Bool
kind_broken r kind i = both (ltb kind mlm) (other_form r i)

-- ---- "24 METHOD"

unfoldable pub wrong_method : Bool → ℕ → Bool
wrong_method mult method = provided mult then eqb method distributed else eqb method lumped

-- ---- all of them, of the step `own`, with `above` steps before it in its model

abbrev pub points_at_map : Records → StepRecord → Bool
points_at_map r own = ltb own.target (length r.maps)

abbrev pub points_at_section : Records → StepRecord → Bool
points_at_section r own = ltb own.target (length r.sections)

unfoldable pub end_rule_at : List ℕ → Records → Owner → StepRecord → ℕ → ℕ
end_rule_at t r o own above =
    first_broken
    (refusal.no_map when not (points_at_map r own)
    ∷ refusal.side when both (points_at_map r own) (meets_above t own (range o.from above r.steps))
    ∷ refusal.count when both (points_at_map r own) (differs_from r o.first (map_of r own.target).pins)
    ∷ [])

unfoldable pub section_rule_at : Records → Owner → StepRecord → Bool → ℕ
section_rule_at r o own mult =
    first_broken
    (refusal.no_section when not (points_at_section r own)
    ∷ refusal.method when both (points_at_section r own) (wrong_method mult (section_of r own.target).method)
    ∷ refusal.kind when both (points_at_section r own) (kind_broken r o.kind own.target)
    ∷ refusal.count when both (points_at_section r own) (differs_from r o.first (section_of r own.target).conductors)
    ∷ [])

-- a Fork or an Endfork breaks no rule
unfoldable pub step_rule_at : List ℕ → Records → Owner → StepRecord → ℕ → Bool → ℕ
step_rule_at t r o own above mult =
    provided eqb own.kind end_kind then end_rule_at t r o own above else
    provided eqb own.kind section_kind then section_rule_at r o own mult else 0

-- ---- what the code requires of the table

-- there is room for its records, and the matrices of a section come before those of the next
pub record StepRooms (table : List ℕ) (v : View) : Type 0 where
  pub rooms : Rooms table v
  pub ordered : (i : ℕ) → i < count_of v sections → first_matrix (records_of table) i ≤ first_matrix (records_of table) (i + 1)
  pub bounded : (i : ℕ) → i < count_of v sections → first_matrix (records_of table) (i + 1) ≤ count_of v matrices
