-- The records that the view locates in a table are those of `records_of`, and lie inside the table.
-- Assumes nothing.
use mathlib.Core.Path.{◌≡◌, refl, sym, ◌∙◌, ap}
use mathlib.Core.List.{List, [], ◌∷◌, map}
use Prim.Native.Nat.{ℕ, zero, suc, ◌+◌, ◌*◌, ◌≤◌, ◌<◌}
use native.Mathlib.Nat.{add-zero, mul-zero, mul-suc, le_of_suc-le-suc, not-suc-le-zero}
use native.Mathlib.Omega.{arith}
use lib.ListN.{length, take, drop, get_or, length-map}
use lib.Seq.{drop-drop, get_or-drop, get_or-take}
use Rattle.table_layout.specs.Layout.{widths, models, steps, maps, pins, sections, matrices, values, part_count, model_width, step_width, map_width, pin_width, section_width, matrix_width, value_width, chopped, parts_in}
use Rattle.std.specs.Prelude.{Some}
use Rattle.table_layout.specs.View.{view_of}
use Rattle.table_layout.specs.declared.View.{View}
use Rattle.table_layout.proofs.PartLaws.{Viewed, viewed}
use Rattle.table_record.specs.declared.StepRecord.{StepRecord}
use Rattle.table_record.specs.declared.SectionRecord.{SectionRecord}
use Rattle.table_record.specs.Records.{Records, to_model, to_step, to_map, to_pin, to_section, to_matrix, to_value, records_in, records_of}
use Rattle.table_record.specs.Way.Standing.{places, name_record_at, model_at, step_at, map_at, pin_at, section_at, matrix_at, value_at, base_of, count_of, places_of, kinds_from, values_from, kinds_at, methods_at, values_at, records_at, Rooms, name_width}
use Rattle.table_record.proofs.PlaceLaws.{places_long}

-- ---- one record

word_here : (table : List ℕ) (w at k : ℕ) → k < w → get_or (take w (drop at table)) k 0 ≡ get_or table (at + k) 0
word_here table w at k h = get_or-take w (drop at table) k 0 h ∙ get_or-drop at table k 0

first_here : (table : List ℕ) (w at : ℕ) → 0 < w → get_or (take w (drop at table)) 0 0 ≡ get_or table at 0
first_here table w at h = word_here table w at 0 h ∙ ap (λ (p : ℕ). get_or table p 0) (add-zero at)

module _ (table : List ℕ) where
  -- the name of a record, whatever comes behind the name
  pub name_here : (w at : ℕ) → name_width ≤ w → name_record_at (take w (drop at table)) 0 ≡ name_record_at table at
  name_here w at h =
      λ i.
      record {
        start = first_here table w at (omega arith) i;
        size = word_here table w at 1 (omega arith) i;
      }

  model_here : (at : ℕ) → to_model (take model_width (drop at table)) ≡ model_at table at
  model_here at =
      λ i.
      record {
        start = first_here table model_width at (omega arith) i;
        size = word_here table model_width at 1 (omega arith) i;
        kind = word_here table model_width at 2 (omega arith) i;
        first = word_here table model_width at 3 (omega arith) i;
        steps = word_here table model_width at 4 (omega arith) i;
      }

  step_here : (at : ℕ) → to_step (take step_width (drop at table)) ≡ step_at table at
  step_here at =
      λ i.
      record {
        kind = first_here table step_width at (omega arith) i;
        target = word_here table step_width at 1 (omega arith) i;
        amount = word_here table step_width at 2 (omega arith) i;
        side = word_here table step_width at 3 (omega arith) i;
        side_size = word_here table step_width at 4 (omega arith) i;
        line = word_here table step_width at 5 (omega arith) i;
      }

  map_here : (at : ℕ) → to_map (take map_width (drop at table)) ≡ map_at table at
  map_here at =
      λ i.
      record {
        start = first_here table map_width at (omega arith) i;
        size = word_here table map_width at 1 (omega arith) i;
        order = word_here table map_width at 2 (omega arith) i;
        rows = word_here table map_width at 3 (omega arith) i;
        columns = word_here table map_width at 4 (omega arith) i;
        first = word_here table map_width at 5 (omega arith) i;
        pins = word_here table map_width at 6 (omega arith) i;
      }

  pin_here : (at : ℕ) → to_pin (take pin_width (drop at table)) ≡ pin_at table at
  pin_here at =
      λ i.
      record {
        start = first_here table pin_width at (omega arith) i;
        size = word_here table pin_width at 1 (omega arith) i;
      }

  section_here : (at : ℕ) → to_section (take section_width (drop at table)) ≡ section_at table at
  section_here at =
      λ i.
      record {
        start = first_here table section_width at (omega arith) i;
        size = word_here table section_width at 1 (omega arith) i;
        method = word_here table section_width at 2 (omega arith) i;
        conductors = word_here table section_width at 3 (omega arith) i;
        resistance = word_here table section_width at 4 (omega arith) i;
        inductance = word_here table section_width at 5 (omega arith) i;
        conductance = word_here table section_width at 6 (omega arith) i;
        capacitance = word_here table section_width at 7 (omega arith) i;
      }

  matrix_here : (at : ℕ) → to_matrix (take matrix_width (drop at table)) ≡ matrix_at table at
  matrix_here at =
      λ i.
      record {
        form = first_here table matrix_width at (omega arith) i;
        bandwidth = word_here table matrix_width at 1 (omega arith) i;
        first = word_here table matrix_width at 2 (omega arith) i;
        values = word_here table matrix_width at 3 (omega arith) i;
        line = word_here table matrix_width at 4 (omega arith) i;
      }

  value_here : (at : ℕ) → to_value (take value_width (drop at table)) ≡ value_at table at
  value_here at =
      λ i.
      record {
        row = first_here table value_width at (omega arith) i;
        column = word_here table value_width at 1 (omega arith) i;
        word = word_here table value_width at 2 (omega arith) i;
      }

-- ---- the records of a part

module _ {A : Type 0} (to : List ℕ → A) (stands : ℕ → A) (w : ℕ) (table : List ℕ) (here : (at : ℕ) → to (take w (drop at table)) ≡ stands at) where
  all_here : (n at : ℕ) → map to (chopped w n (drop at table)) ≡ map stands (places w at n)
  unfolding chopped places
  all_here zero at = refl
  all_here (suc n) at =
      let rest : map to (chopped w n (drop w (drop at table))) ≡ map stands (places w (at + w) n) = rw (drop-drop w at table) (all_here n (at + w)) in
      λ i. here at i ∷ rest i

module _ (table : List ℕ) (v : View) (holds : Viewed table v) where
  part_here : {A : Type 0} (to : List ℕ → A) (stands : ℕ → A) (part : ℕ) → part < part_count → ((at : ℕ) → to (take (get_or widths part 0) (drop at table)) ≡ stands at) →
      map stands (places_of v part) ≡ map to (get_or (parts_in widths table) part [])
  unfolding places_of
  part_here to stands part h here = sym (all_here to stands (get_or widths part 0) table here (count_of v part) (base_of v part)) ∙ ap (map to) (holds.records part h)

  pub records_here : records_at table v ≡ records_of table
  unfolding records_at records_of records_in
  records_here =
      λ i.
      record {
        models = part_here to_model (model_at table) models (omega arith) (model_here table) i;
        steps = part_here to_step (step_at table) steps (omega arith) (step_here table) i;
        maps = part_here to_map (map_at table) maps (omega arith) (map_here table) i;
        pins = part_here to_pin (pin_at table) pins (omega arith) (pin_here table) i;
        sections = part_here to_section (section_at table) sections (omega arith) (section_here table) i;
        matrices = part_here to_matrix (matrix_at table) matrices (omega arith) (matrix_here table) i;
        values = part_here to_value (value_at table) values (omega arith) (value_here table) i;
      }

  pub rooms_of : Rooms table v
  rooms_of =
      record {
        records = records_here;
        room = holds.inside;
        model_room = holds.inside models (omega arith);
        step_room = holds.inside steps (omega arith);
        map_room = holds.inside maps (omega arith);
        pin_room = holds.inside pins (omega arith);
        section_room = holds.inside sections (omega arith);
        matrix_room = holds.inside matrices (omega arith);
        value_room = holds.inside values (omega arith);
        few_models = holds.few models (omega arith);
        few_steps = holds.few steps (omega arith);
        few_maps = holds.few maps (omega arith);
        few_pins = holds.few pins (omega arith);
        few_sections = holds.few sections (omega arith);
        few_matrices = holds.few matrices (omega arith);
        few_values = holds.few values (omega arith);
      }

-- the view of a table
pub view_rooms : (table : List ℕ) (v : View) → Some v ≡ view_of table → Rooms table v
view_rooms table v is_view = rooms_of table v (viewed table v is_view)

-- ---- how many there are, and what is gathered of them

map-map : {A B : Type 0} (g : A → B) (f : ℕ → A) (ps : List ℕ) → map (λ (at : ℕ). g (f at)) ps ≡ map g (map f ps)
map-map g f [] = refl
map-map {B = B} g f (p ∷ ps) = ap (λ (ys : List B). g (f p) ∷ ys) (map-map g f ps)

module _ (table : List ℕ) (v : View) where
  pub models_are : count_of v models ≡ length (records_at table v).models
  unfolding records_at places_of
  models_are = sym (length-map (places model_width (base_of v models) (count_of v models)) (model_at table) ∙ places_long model_width _ _)

  pub steps_are : count_of v steps ≡ length (records_at table v).steps
  unfolding records_at places_of
  steps_are = sym (length-map (places step_width (base_of v steps) (count_of v steps)) (step_at table) ∙ places_long step_width _ _)

  pub maps_are : count_of v maps ≡ length (records_at table v).maps
  unfolding records_at places_of
  maps_are = sym (length-map (places map_width (base_of v maps) (count_of v maps)) (map_at table) ∙ places_long map_width _ _)

  pub pins_are : count_of v pins ≡ length (records_at table v).pins
  unfolding records_at places_of
  pins_are = sym (length-map (places pin_width (base_of v pins) (count_of v pins)) (pin_at table) ∙ places_long pin_width _ _)

  pub sections_are : count_of v sections ≡ length (records_at table v).sections
  unfolding records_at places_of
  sections_are = sym (length-map (places section_width (base_of v sections) (count_of v sections)) (section_at table) ∙ places_long section_width _ _)

  pub matrices_are : count_of v matrices ≡ length (records_at table v).matrices
  unfolding records_at places_of
  matrices_are = sym (length-map (places matrix_width (base_of v matrices) (count_of v matrices)) (matrix_at table) ∙ places_long matrix_width _ _)

  pub values_are : count_of v values ≡ length (records_at table v).values
  unfolding records_at places_of
  values_are = sym (length-map (places value_width (base_of v values) (count_of v values)) (value_at table) ∙ places_long value_width _ _)

  pub kinds_are : kinds_at table v ≡ map (λ (s : StepRecord). s.kind) (records_at table v).steps
  unfolding kinds_at kinds_from records_at places_of
  kinds_are = map-map (λ (s : StepRecord). s.kind) (step_at table) (places_of v steps)

  pub methods_are : methods_at table v ≡ map (λ (s : SectionRecord). s.method) (records_at table v).sections
  unfolding methods_at records_at places_of
  methods_are = map-map (λ (s : SectionRecord). s.method) (section_at table) (places_of v sections)

  pub values_gathered : values_at table v ≡ (records_at table v).values
  unfolding values_at values_from records_at places_of
  values_gathered = refl

-- ---- the record at an index

module _ {A : Type 0} (w : ℕ) (f : ℕ → A) (none : A) where
  pub record_at_lem : (from i n : ℕ) → i < n → get_or (map f (places w from n)) i none ≡ f (from + w * i)
  unfolding places
  record_at_lem from i zero h = absurd (not-suc-le-zero h)
  record_at_lem from zero (suc n) h =
      let e : from ≡ from + w * 0 = sym (ap (λ (k : ℕ). from + k) (mul-zero w) ∙ add-zero from) in
      ap f e
  record_at_lem from (suc i) (suc n) h =
      let m : w * suc i ≡ w * i + w = mul-suc w i in
      let e : from + w + w * i ≡ from + w * suc i = omega arith in
      record_at_lem (from + w) i n (le_of_suc-le-suc h) ∙ ap f e

module _ (table : List ℕ) (v : View) (rooms : Rooms table v) where
  pub models_long : length (records_of table).models ≡ count_of v models
  models_long = ap (λ (r : Records). length r.models) (sym rooms.records) ∙ sym (models_are table v)

  pub steps_long : length (records_of table).steps ≡ count_of v steps
  steps_long = ap (λ (r : Records). length r.steps) (sym rooms.records) ∙ sym (steps_are table v)

  pub maps_long : length (records_of table).maps ≡ count_of v maps
  maps_long = ap (λ (r : Records). length r.maps) (sym rooms.records) ∙ sym (maps_are table v)

  pub pins_long : length (records_of table).pins ≡ count_of v pins
  pins_long = ap (λ (r : Records). length r.pins) (sym rooms.records) ∙ sym (pins_are table v)

  pub sections_long_lem : length (records_of table).sections ≡ count_of v sections
  sections_long_lem = ap (λ (r : Records). length r.sections) (sym rooms.records) ∙ sym (sections_are table v)

  pub matrices_long : length (records_of table).matrices ≡ count_of v matrices
  matrices_long = ap (λ (r : Records). length r.matrices) (sym rooms.records) ∙ sym (matrices_are table v)

  pub values_long : length (records_of table).values ≡ count_of v values
  values_long = ap (λ (r : Records). length r.values) (sym rooms.records) ∙ sym (values_are table v)

module _ {A : Type 0} (kind : Records → List A) (stands : List ℕ → ℕ → A) (none : A) (part w : ℕ) (table : List ℕ) (v : View)
    (is_kind : kind (records_at table v) ≡ map (stands table) (places_of v part)) (has_width : get_or widths part 0 ≡ w) (rooms : Rooms table v) where
  pub nth_is : (i : ℕ) → i < count_of v part → stands table (base_of v part + w * i) ≡ get_or (kind (records_of table)) i none
  unfolding places_of
  nth_is i h =
      sym (record_at_lem w (stands table) none (base_of v part) i (count_of v part) h)
      ∙ ap (λ (n : ℕ). get_or (map (stands table) (places n (base_of v part) (count_of v part))) i none) (sym has_width)
      ∙ ap (λ (xs : List A). get_or xs i none) (sym is_kind)
      ∙ ap (λ (r : Records). get_or (kind r) i none) rooms.records

  pub kind_long : length (kind (records_of table)) ≡ count_of v part
  unfolding places_of
  kind_long =
      ap (λ (r : Records). length (kind r)) (sym rooms.records) ∙ ap length is_kind
      ∙ length-map (places_of v part) (stands table) ∙ places_long (get_or widths part 0) _ _
