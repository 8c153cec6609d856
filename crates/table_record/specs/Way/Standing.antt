-- Where the records of a table are, by its view: each record by the word where it begins, each part by those of its
-- records; and that all of them lie inside the table.
-- Assumes nothing.
use Rattle.std.specs.Prelude.{ℕ, zero, suc, ◌+◌, ◌*◌, ◌≤◌, ◌<◌, ◌≡◌, List, [], ◌∷◌, map, length, get_or}
use Rattle.table_layout.specs.Layout.{models, steps, maps, pins, sections, matrices, values, widths, part_count, model_width, step_width, map_width, pin_width, section_width, matrix_width, value_width}
use Rattle.table_layout.specs.Bounds.{most_models, most_steps, most_maps, most_pins, most_sections, most_matrices, most_values}
use Rattle.table_layout.specs.declared.View.{View}
use Rattle.table_record.specs.Records.{Records, records_of, model_by, step_by, map_by, pin_by, section_by, matrix_by, value_by}
use Rattle.table_record.specs.declared.NameRecord.{NameRecord}
use Rattle.table_record.specs.declared.ModelRecord.{ModelRecord}
use Rattle.table_record.specs.declared.StepRecord.{StepRecord}
use Rattle.table_record.specs.declared.MapRecord.{MapRecord}
use Rattle.table_record.specs.declared.PinRecord.{PinRecord}
use Rattle.table_record.specs.declared.SectionRecord.{SectionRecord}
use Rattle.table_record.specs.declared.MatrixRecord.{MatrixRecord}
use Rattle.table_record.specs.declared.Value.{Value}

-- the words where n records of w words begin, the first one at `from`
unfoldable pub places : ℕ → ℕ → ℕ → List ℕ
places w from zero = []
places w from (suc n) = from ∷ places w (from + w) n

-- ---- the record that begins at word `at`

-- only its name: where it starts in the text, and its length
abbrev pub name_width : ℕ
name_width = 2

abbrev pub name_record_at : List ℕ → ℕ → NameRecord
name_record_at table at = record { start = get_or table at 0; size = get_or table (at + 1) 0 }

abbrev pub model_at : List ℕ → ℕ → ModelRecord
model_at table at = model_by (get_or table at 0) (λ (n : ℕ). get_or table (at + n) 0)

abbrev pub step_at : List ℕ → ℕ → StepRecord
step_at table at = step_by (get_or table at 0) (λ (n : ℕ). get_or table (at + n) 0)

abbrev pub map_at : List ℕ → ℕ → MapRecord
map_at table at = map_by (get_or table at 0) (λ (n : ℕ). get_or table (at + n) 0)

abbrev pub pin_at : List ℕ → ℕ → PinRecord
pin_at table at = pin_by (get_or table at 0) (λ (n : ℕ). get_or table (at + n) 0)

abbrev pub section_at : List ℕ → ℕ → SectionRecord
section_at table at = section_by (get_or table at 0) (λ (n : ℕ). get_or table (at + n) 0)

abbrev pub matrix_at : List ℕ → ℕ → MatrixRecord
matrix_at table at = matrix_by (get_or table at 0) (λ (n : ℕ). get_or table (at + n) 0)

abbrev pub value_at : List ℕ → ℕ → Value
value_at table at = value_by (get_or table at 0) (λ (n : ℕ). get_or table (at + n) 0)

-- ---- the parts

abbrev pub base_of : View → ℕ → ℕ
base_of v part = get_or v.bases part 0

abbrev pub count_of : View → ℕ → ℕ
count_of v part = get_or v.counts part 0

-- the words where the records of a part begin
unfoldable pub places_of : View → ℕ → List ℕ
places_of v part = places (get_or widths part 0) (base_of v part) (count_of v part)

unfoldable pub records_at : List ℕ → View → Records
records_at table v =
    record {
      models = map (model_at table) (places_of v models);
      steps = map (step_at table) (places_of v steps);
      maps = map (map_at table) (places_of v maps);
      pins = map (pin_at table) (places_of v pins);
      sections = map (section_at table) (places_of v sections);
      matrices = map (matrix_at table) (places_of v matrices);
      values = map (value_at table) (places_of v values);
    }

-- the kinds of n steps, and n values; the record of the first begins at word `from`
unfoldable pub kinds_from : List ℕ → ℕ → ℕ → List ℕ
kinds_from table from n = map (λ (at : ℕ). (step_at table at).kind) (places step_width from n)

unfoldable pub values_from : List ℕ → ℕ → ℕ → List Value
values_from table from n = map (value_at table) (places value_width from n)

unfoldable pub kinds_at : List ℕ → View → List ℕ
kinds_at table v = kinds_from table (base_of v steps) (count_of v steps)

unfoldable pub methods_at : List ℕ → View → List ℕ
methods_at table v = map (λ (at : ℕ). (section_at table at).method) (places section_width (base_of v sections) (count_of v sections))

unfoldable pub values_at : List ℕ → View → List Value
values_at table v = values_from table (base_of v values) (count_of v values)

-- ---- the one statement that there is room for the records of each part: they lie inside the table, are no more than the
-- paper allows, and are those that the table holds

pub record Rooms (table : List ℕ) (v : View) : Type 0 where
  pub records : records_at table v ≡ records_of table
  pub room : (part : ℕ) → part < part_count → base_of v part + get_or widths part 0 * count_of v part ≤ length table
  pub model_room : base_of v models + model_width * count_of v models ≤ length table
  pub step_room : base_of v steps + step_width * count_of v steps ≤ length table
  pub map_room : base_of v maps + map_width * count_of v maps ≤ length table
  pub pin_room : base_of v pins + pin_width * count_of v pins ≤ length table
  pub section_room : base_of v sections + section_width * count_of v sections ≤ length table
  pub matrix_room : base_of v matrices + matrix_width * count_of v matrices ≤ length table
  pub value_room : base_of v values + value_width * count_of v values ≤ length table
  pub few_models : count_of v models ≤ most_models
  pub few_steps : count_of v steps ≤ most_steps
  pub few_maps : count_of v maps ≤ most_maps
  pub few_pins : count_of v pins ≤ most_pins
  pub few_sections : count_of v sections ≤ most_sections
  pub few_matrices : count_of v matrices ≤ most_matrices
  pub few_values : count_of v values ≤ most_values
