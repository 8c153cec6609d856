-- Laws of the tests of models, section steps and matrices, whose records refer to others: what is known at each `return` gives the test.
-- Assumes nothing.
use mathlib.Core.Path.{◌≡◌, sym, ◌∙◌, ap}
use mathlib.Core.Bool.{Bool, true, false, not}
use mathlib.Core.List.{List}
use Prim.Native.Nat.{ℕ, ◌+◌, ◌*◌, ◌^◌, ◌≤◌, ◌<◌}
use mir.Syntax.{w64}
use mir.Val.{Fits}
use native.Mathlib.Omega.{arith}
use lib.ListN.{length, get_or}
use borrow.Author.Tests.{ne_eqb, lt-ltb, le-ltb, not-true, not-false}
use Rattle.ask_sound.specs.Way.Judging.{is_record}
use Rattle.table_layout.specs.Codes.{model_types, matrix_forms}
use Rattle.table_layout.specs.Bounds.{most_conductors}
use Rattle.table_record.specs.declared.ModelRecord.{ModelRecord}
use Rattle.table_record.specs.declared.StepRecord.{StepRecord}
use Rattle.table_record.specs.declared.MapRecord.{MapRecord}
use Rattle.table_record.specs.declared.PinRecord.{PinRecord}
use Rattle.table_record.specs.declared.Value.{Value}
use Rattle.table_record.specs.declared.SectionRecord.{SectionRecord}
use Rattle.table_record.specs.declared.MatrixRecord.{MatrixRecord}
use Rattle.table_record.specs.Records.{range}
use Rattle.table_record.specs.Way.Standing.{model_at, step_at, map_at, pin_at, section_at, matrix_at, value_at, base_of, count_of, Rooms, kinds_from, values_from, kinds_at, methods_at, values_at}
use Rattle.base.specs.If.{provided◌then◌else◌, both}
use Rattle.base.proofs.IfLaws.{if_false, both_rest, both_not_left}
use Rattle.table_layout.specs.Layout.{widths, models, steps, maps, pins, sections, matrices, values, model_width, step_width, map_width, pin_width, section_width, matrix_width, value_width}
use Rattle.table_layout.specs.declared.View.{View}
use Rattle.doc.specs.Holds.{rises}
use Rattle.ask_sound.specs.Tests.{is_range, is_name_in, has_no_side, amount_fits, is_bandwidth}
use Rattle.ask_sound.proofs.RangeLaws.{range_inside}
use Rattle.ask_sound.specs.Sound.{depth_holds, is_model, is_section_step, is_step, is_map, is_pin, is_section, is_matrix, is_value}
use Rattle.table_record.proofs.PlaceLaws.{kinds_long, kinds_range, methods_long, method_word, values_long, values_range}

-- ---- models

module _ (bytes : ℕ) (table : List ℕ) (v : View) (m : ModelRecord) (name : Bool) (is_name : name ≡ is_name_in bytes m.start m.size) (named : not name ≡ false)
    (typed : m.kind < model_types) (inside : Bool) (is_inside_lem : inside ≡ is_range m.first m.steps (count_of v steps)) where
  abbrev its_first : ℕ
  its_first = m.first

  abbrev its_steps : ℕ
  its_steps = m.steps

  model_rest : is_model bytes (kinds_at table v) m ≡ both (is_range its_first its_steps (length (kinds_at table v))) (depth_holds 0 (range its_first its_steps (kinds_at table v)))
  unfolding is_model
  model_rest = both_rest _ _ (sym is_name ∙ not-false name named) ∙ both_rest _ _ (lt-ltb _ _ typed)

  range_is : inside ≡ is_range its_first its_steps (length (kinds_at table v))
  range_is = is_inside_lem ∙ ap (is_range its_first its_steps) (sym (kinds_long table v))

  pub model_outside : not inside ≡ true → false ≡ is_model bytes (kinds_at table v) m
  model_outside e = sym (model_rest ∙ both_not_left _ _ (sym range_is ∙ not-true inside e))

  module _ (e : not inside ≡ false) where
    steps_inside : its_first + its_steps ≤ count_of v steps
    steps_inside = range_inside _ _ _ (sym is_inside_lem ∙ not-false inside e)

    pub model_depth : (r : Bool) → r ≡ depth_holds 0 (kinds_from table (base_of v steps + step_width * its_first) its_steps) → r ≡ is_model bytes (kinds_at table v) m
    model_depth r is =
        is ∙ ap (depth_holds 0) (sym (kinds_range table v its_first its_steps steps_inside))
        ∙ sym (model_rest ∙ both_rest _ _ (sym range_is ∙ not-false inside e))

-- ---- steps over sections

module _ (table : List ℕ) (v : View) (s : StepRecord) where
  abbrev its_target : ℕ
  its_target = s.target

  pub section_none : count_of v sections ≤ its_target → false ≡ is_section_step (methods_at table v) s
  unfolding is_section_step
  section_none h =
      let k : length (methods_at table v) ≤ its_target = rw (methods_long table v) h in
      sym (both_not_left _ _ (le-ltb _ _ k))

  module _ (h : its_target < count_of v sections) (x : SectionRecord) (here : x ≡ section_at table (base_of v sections + section_width * its_target))
      (fits : Bool) (told : fits ≡ amount_fits x.method s.amount) where
    fits_is : fits ≡ amount_fits (get_or (methods_at table v) its_target 0) s.amount
    fits_is =
        told ∙ ap (λ (y : SectionRecord). amount_fits y.method s.amount) here
        ∙ ap (λ (m : ℕ). amount_fits m s.amount) (sym (method_word table v its_target h))

    section_rest : is_section_step (methods_at table v) s ≡ both (amount_fits (get_or (methods_at table v) its_target 0) s.amount) (has_no_side s.side s.side_size)
    unfolding is_section_step
    section_rest =
        let k : its_target < length (methods_at table v) = rw (methods_long table v) h in
        both_rest _ _ (lt-ltb _ _ k)

    pub section_unfit : not fits ≡ true → false ≡ is_section_step (methods_at table v) s
    section_unfit e = sym (section_rest ∙ both_not_left _ _ (sym fits_is ∙ not-true fits e))

    pub section_fits : not fits ≡ false → (r : Bool) → r ≡ has_no_side s.side s.side_size → r ≡ is_section_step (methods_at table v) s
    section_fits e r is = is ∙ sym (section_rest ∙ both_rest _ _ (sym fits_is ∙ not-false fits e))

-- ---- matrices

module _ (table : List ℕ) (v : View) (m : MatrixRecord) (formed : m.form < matrix_forms) (wide : Bool) (wide_is : wide ≡ is_bandwidth m.form m.bandwidth) (fitting : not wide ≡ false)
    (inside : Bool) (is_inside_lem : inside ≡ is_range m.first m.values (count_of v values)) where
  abbrev first_value : ℕ
  first_value = m.first

  abbrev its_values : ℕ
  its_values = m.values

  matrix_rest : is_matrix (values_at table v) m ≡ both (is_range first_value its_values (length (values_at table v))) (rises most_conductors (range first_value its_values (values_at table v)))
  unfolding is_matrix
  matrix_rest = both_rest _ _ (lt-ltb _ _ formed) ∙ both_rest _ _ (sym wide_is ∙ not-false wide fitting)

  values_are : inside ≡ is_range first_value its_values (length (values_at table v))
  values_are = is_inside_lem ∙ ap (is_range first_value its_values) (sym (values_long table v))

  pub matrix_outside : not inside ≡ true → false ≡ is_matrix (values_at table v) m
  matrix_outside e = sym (matrix_rest ∙ both_not_left _ _ (sym values_are ∙ not-true inside e))

  module _ (e : not inside ≡ false) where
    values_inside : first_value + its_values ≤ count_of v values
    values_inside = range_inside _ _ _ (sym is_inside_lem ∙ not-false inside e)

    pub matrix_rises : (r : Bool) → r ≡ rises most_conductors (values_from table (base_of v values + value_width * first_value) its_values) → r ≡ is_matrix (values_at table v) m
    matrix_rises r is =
        is ∙ ap (rises most_conductors) (sym (values_range table v first_value its_values values_inside))
        ∙ sym (matrix_rest ∙ both_rest _ _ (sym values_are ∙ not-false inside e))

-- ---- the steps of a model and the values of a matrix lie inside

module _ (table : List ℕ) (v : View) (rooms : Rooms table v) (first many : ℕ) (inside : Bool) (kept : not inside ≡ false) where
  module _ (told : inside ≡ is_range first many (count_of v steps)) where
    pub steps_room : base_of v steps + step_width * first + step_width * many ≤ length table
    steps_room =
        let h : first + many ≤ count_of v steps = range_inside first many (count_of v steps) (sym told ∙ not-false inside kept) in
        omega (arith, rooms.step_room)

    pub steps_product : length table * 8 < 2 ^ 63 → Fits w64 (step_width * first)
    steps_product h = omega (arith, steps_room)

    pub steps_sum : length table * 8 < 2 ^ 63 → Fits w64 (base_of v steps + step_width * first)
    steps_sum h = omega (arith, steps_room)

  pub values_within : inside ≡ is_range first many (count_of v values) → first + many ≤ count_of v values
  values_within told = range_inside first many (count_of v values) (sym told ∙ not-false inside kept)

-- ---- the record of a part lies inside, with the words that its part's records have

module _ (part at room : ℕ) (inside : at + get_or widths part 0 ≤ room) where
  pub model_fits : part ≡ models → at + model_width ≤ room
  model_fits e = rw e at inside

  pub step_fits : part ≡ steps → at + step_width ≤ room
  step_fits e = rw e at inside

  pub map_fits : part ≡ maps → at + map_width ≤ room
  map_fits e = rw e at inside

  pub pin_fits : part ≡ pins → at + pin_width ≤ room
  pin_fits e = rw e at inside

  pub section_fits_in : part ≡ sections → at + section_width ≤ room
  section_fits_in e = rw e at inside

  pub matrix_fits : part ≡ matrices → at + matrix_width ≤ room
  matrix_fits e = rw e at inside

  pub value_fits : part ≡ values → at + value_width ≤ room
  value_fits e = rw e at inside

-- ---- the test of a record is that of its part

module _ (bytes : ℕ) (table : List ℕ) (v : View) (part at : ℕ) (r : Bool) where
  pub model_record_lem : part ≡ models → (x : ModelRecord) → x ≡ model_at table at → r ≡ is_model bytes (kinds_at table v) x → r ≡ is_record bytes table v part at
  unfolding is_record provided◌then◌else◌
  model_record_lem e x here is = is ∙ ap (is_model bytes (kinds_at table v)) here ∙ sym (ap (λ (p : ℕ). is_record bytes table v p at) e)

  pub step_record_lem : part ≡ steps → (x : StepRecord) → x ≡ step_at table at → r ≡ is_step bytes (count_of v maps) (methods_at table v) x → r ≡ is_record bytes table v part at
  unfolding is_record provided◌then◌else◌
  step_record_lem e x here is = is ∙ ap (is_step bytes (count_of v maps) (methods_at table v)) here ∙ sym (ap (λ (p : ℕ). is_record bytes table v p at) e)

  pub map_record_lem : part ≡ maps → (x : MapRecord) → x ≡ map_at table at → r ≡ is_map bytes (count_of v pins) x → r ≡ is_record bytes table v part at
  unfolding is_record provided◌then◌else◌
  map_record_lem e x here is = is ∙ ap (is_map bytes (count_of v pins)) here ∙ sym (ap (λ (p : ℕ). is_record bytes table v p at) e)

  pub pin_record_lem : part ≡ pins → (x : PinRecord) → x ≡ pin_at table at → r ≡ is_pin bytes x → r ≡ is_record bytes table v part at
  unfolding is_record provided◌then◌else◌
  pin_record_lem e x here is = is ∙ ap (is_pin bytes) here ∙ sym (ap (λ (p : ℕ). is_record bytes table v p at) e)

  pub section_record_lem : part ≡ sections → (x : SectionRecord) → x ≡ section_at table at → r ≡ is_section bytes (count_of v matrices) x → r ≡ is_record bytes table v part at
  unfolding is_record provided◌then◌else◌
  section_record_lem e x here is = is ∙ ap (is_section bytes (count_of v matrices)) here ∙ sym (ap (λ (p : ℕ). is_record bytes table v p at) e)

  pub matrix_record_lem : part ≡ matrices → (x : MatrixRecord) → x ≡ matrix_at table at → r ≡ is_matrix (values_at table v) x → r ≡ is_record bytes table v part at
  unfolding is_record provided◌then◌else◌
  matrix_record_lem e x here is = is ∙ ap (is_matrix (values_at table v)) here ∙ sym (ap (λ (p : ℕ). is_record bytes table v p at) e)

  pub value_record : part ≡ values → (x : Value) → x ≡ value_at table at → r ≡ is_value x → r ≡ is_record bytes table v part at
  unfolding is_record provided◌then◌else◌
  value_record e x here is = is ∙ ap (is_value) here ∙ sym (ap (λ (p : ℕ). is_record bytes table v p at) e)

pub no_record :
    (bytes : ℕ) (table : List ℕ) (v : View) (part at : ℕ) → (part ≡ models → ⊥) → (part ≡ steps → ⊥) → (part ≡ maps → ⊥) → (part ≡ pins → ⊥) → (part ≡ sections → ⊥) →
    (part ≡ matrices → ⊥) → (part ≡ values → ⊥) → true ≡ is_record bytes table v part at
unfolding is_record
no_record bytes table v part at a b c d e f g =
    sym
    (if_false _ _ (ne_eqb part models a) ∙ if_false _ _ (ne_eqb part steps b) ∙ if_false _ _ (ne_eqb part maps c) ∙ if_false _ _ (ne_eqb part pins d)
    ∙ if_false _ _ (ne_eqb part sections e) ∙ if_false _ _ (ne_eqb part matrices f) ∙ if_false _ _ (ne_eqb part values g))
