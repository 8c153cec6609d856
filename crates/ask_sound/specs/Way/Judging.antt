-- The tests of the records of a table, by the words where they begin.
-- Assumes nothing.
use Rattle.std.specs.Prelude.{ℕ, zero, suc, ◌+◌, ◌-◌, ◌*◌, ◌/◌, ◌<◌, ◌≡◌, Bool, true, List, [], ◌∷◌, length, get_or, eqb}
use Rattle.base.specs.If.{provided◌then◌else◌, both}
use Rattle.table_layout.specs.Layout.{models, steps, maps, pins, sections, matrices, values, value_width}
use Rattle.table_layout.specs.Bounds.{most_conductors, most_values}
use Rattle.table_layout.specs.declared.View.{View}
use Rattle.table_record.specs.declared.Value.{Value}
use Rattle.table_record.specs.Way.Standing.{model_at, step_at, map_at, pin_at, section_at, matrix_at, value_at, base_of, count_of, places_of, values_from, kinds_at, methods_at, values_at}
use Rattle.doc.specs.Holds.{is_in_upper_half, comes_before}
use Rattle.ask_sound.specs.Sound.{every, is_model, is_step, is_map, is_pin, is_section, is_matrix, is_value}

-- the first of a list of values has a row and a column in bounds and comes before the second, if there is one
unfoldable pub goes_on : ℕ → List Value → Bool
goes_on n [] = true
goes_on n (v ∷ []) = is_in_upper_half n v
goes_on n (v ∷ w ∷ vs) = both (is_in_upper_half n v) (comes_before v w)

-- how many values rise, counted from the front
unfoldable pub reach : ℕ → List Value → ℕ
reach n [] = 0
reach n (v ∷ []) = provided is_in_upper_half n v then 1 else 0
reach n (v ∷ w ∷ vs) = provided is_in_upper_half n v then provided comes_before v w then suc (reach n (w ∷ vs)) else 1 else 0

-- of `count` values, the first of which begins at word `from`: how many rise from value i on
unfoldable pub reach_at : List ℕ → ℕ → ℕ → ℕ → ℕ
reach_at table from count i = reach most_conductors (values_from table (from + value_width * i) (count - i))

-- The reach of the first value of every block is computed once, so that matrices which share values do not go through all
-- of them again.
abbrev pub block_values : ℕ
block_values = 64

abbrev pub most_blocks : ℕ
most_blocks = most_values / block_values

pub record Reaches (table : List ℕ) (from count : ℕ) (blocks : List ℕ) : Type 0 where
  pub long : length blocks ≡ most_blocks
  pub told : (block : ℕ) → block_values * block < count → get_or blocks block 0 ≡ reach_at table from count (block_values * block)

abbrev pub ValueReaches : List ℕ → View → List ℕ → Type 0
ValueReaches table v blocks = Reaches table (base_of v values) (count_of v values) blocks

-- the record of a part that begins at word `at` is sound
unfoldable pub is_record : ℕ → List ℕ → View → ℕ → ℕ → Bool
is_record bytes table v part at =
    provided eqb part models then is_model bytes (kinds_at table v) (model_at table at) else
    provided eqb part steps then is_step bytes (count_of v maps) (methods_at table v) (step_at table at) else
    provided eqb part maps then is_map bytes (count_of v pins) (map_at table at) else
    provided eqb part pins then is_pin bytes (pin_at table at) else
    provided eqb part sections then is_section bytes (count_of v matrices) (section_at table at) else
    provided eqb part matrices then is_matrix (values_at table v) (matrix_at table at) else
    provided eqb part values then is_value (value_at table at) else true

unfoldable pub are_records : ℕ → List ℕ → View → ℕ → Bool
are_records bytes table v part = every (is_record bytes table v part) (places_of v part)

-- the next parts, from `part` on; the last argument is their number
unfoldable pub are_parts : ℕ → List ℕ → View → ℕ → ℕ → Bool
are_parts bytes table v part zero = true
are_parts bytes table v part (suc n) = both (are_records bytes table v part) (are_parts bytes table v (part + 1) n)
