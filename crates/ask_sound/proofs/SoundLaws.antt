-- The tests that the code makes of the records of a table are the definition.
-- Assumes nothing.
use mathlib.Core.Path.{◌≡◌, refl, sym, ◌∙◌, ap}
use mathlib.Core.Bool.{Bool, true, false, not}
use mathlib.Core.List.{List, [], ◌∷◌, map}
use Prim.Native.Nat.{ℕ, ◌+◌, ◌*◌, ◌≤◌}
use lib.ListN.{length, drop}
use borrow.Author.Tests.{not-true, not-false}
use Rattle.ask_sound.specs.Way.Judged.{SoundRecords}
use Rattle.ask_sound.specs.Way.Judging.{is_record, are_records, are_parts}
use Rattle.table_record.specs.Way.Standing.{model_at, step_at, map_at, pin_at, section_at, matrix_at, value_at, base_of, count_of, places_of, kinds_at, methods_at, values_at, records_at, Rooms}
use Rattle.table_record.specs.Records.{Records}
use Rattle.base.specs.If.{provided◌then◌else◌, both}
use Rattle.base.proofs.IfLaws.{if_true, if_false, by_test, both_rest, both_first, both_second, both_not_left}
use Rattle.table_layout.specs.Layout.{models, steps, maps, pins, sections, matrices, values, part_count, value_width}
use Rattle.table_layout.specs.Bounds.{most_values}
use Rattle.std.specs.Prelude.{Option, Some, None, is_some}
use Rattle.table_layout.specs.View.{placed, view_of}
use Rattle.table_layout.specs.declared.View.{View}
use Rattle.table_layout.proofs.PartLaws.{viewed, view_placed}
use Rattle.ask_sound.specs.Sound.{
  every,
  is_model,
  is_step,
  is_map,
  is_pin,
  is_section,
  is_matrix,
  is_value,
  record_kinds,
  methods_of,
  are_sound,
  are_zeros,
  is_sound,
  sound_view,
}
use Rattle.table_record.proofs.RecordLaws.{view_rooms, maps_are, pins_are, matrices_are, kinds_are, methods_are, values_gathered}

-- ---- the tests

every_map : {A : Type 0} (test : A → Bool) (stands : ℕ → A) (ps : List ℕ) → every test (map stands ps) ≡ every (λ (at : ℕ). test (stands at)) ps
unfolding every
every_map test stands [] = refl
every_map test stands (p ∷ ps) = ap (both (test (stands p))) (every_map test stands ps)

both_end : (b : Bool) → both b true ≡ b
unfolding both
both_end true = refl
both_end false = refl

module _ (bytes : ℕ) (table : List ℕ) (v : View) where
  abbrev r : Records
  r = records_at table v

  models_sound : are_records bytes table v models ≡ every (is_model bytes (record_kinds r.steps)) r.models
  unfolding are_records is_record provided◌then◌else◌ records_at record_kinds methods_of
  models_sound = sym (every_map (is_model bytes (kinds_at table v)) (model_at table) (places_of v models)) ∙ ap (λ (ks : List ℕ). every (is_model bytes ks) (map (model_at table) (places_of v models))) (kinds_are table v)

  steps_sound : are_records bytes table v steps ≡ every (is_step bytes (length r.maps) (methods_of r.sections)) r.steps
  unfolding are_records is_record provided◌then◌else◌ records_at record_kinds methods_of
  steps_sound =
      sym (every_map (is_step bytes (count_of v maps) (methods_at table v)) (step_at table) (places_of v steps))
      ∙ (λ i. every (is_step bytes (maps_are table v i) (methods_are table v i)) (map (step_at table) (places_of v steps)))

  maps_sound : are_records bytes table v maps ≡ every (is_map bytes (length r.pins)) r.maps
  unfolding are_records is_record provided◌then◌else◌ records_at record_kinds methods_of
  maps_sound = sym (every_map (is_map bytes (count_of v pins)) (map_at table) (places_of v maps)) ∙ (λ i. every (is_map bytes (pins_are table v i)) (map (map_at table) (places_of v maps)))

  pins_sound : are_records bytes table v pins ≡ every (is_pin bytes) r.pins
  unfolding are_records is_record provided◌then◌else◌ records_at record_kinds methods_of
  pins_sound = sym (every_map (is_pin bytes) (pin_at table) (places_of v pins))

  sections_sound : are_records bytes table v sections ≡ every (is_section bytes (length r.matrices)) r.sections
  unfolding are_records is_record provided◌then◌else◌ records_at record_kinds methods_of
  sections_sound =
      sym (every_map (is_section bytes (count_of v matrices)) (section_at table) (places_of v sections))
      ∙ (λ i. every (is_section bytes (matrices_are table v i)) (map (section_at table) (places_of v sections)))

  matrices_sound : are_records bytes table v matrices ≡ every (is_matrix r.values) r.matrices
  unfolding are_records is_record provided◌then◌else◌ records_at record_kinds methods_of
  matrices_sound =
      sym (every_map (is_matrix (values_at table v)) (matrix_at table) (places_of v matrices))
      ∙ (λ i. every (is_matrix (values_gathered table v i)) (map (matrix_at table) (places_of v matrices)))

  values_sound : are_records bytes table v values ≡ every is_value r.values
  unfolding are_records is_record provided◌then◌else◌ records_at record_kinds methods_of
  values_sound = sym (every_map is_value (value_at table) (places_of v values))

  pub parts_sound : are_parts bytes table v 0 part_count ≡ are_sound bytes (records_at table v)
  unfolding are_parts are_sound
  parts_sound =
      λ i.
      both (models_sound i)
      (both (steps_sound i)
      (both (maps_sound i) (both (pins_sound i) (both (sections_sound i) (both (matrices_sound i) ((both_end _ ∙ values_sound) i))))))

-- ---- the whole

module _ (t table : List ℕ) where
  pub known_some : is_sound t table ≡ true → is_some (view_of table) ≡ true
  unfolding is_sound
  known_some e = both_first _ _ e

  -- a view is handed on exactly if the table is sound
  told_some : is_some (sound_view t table) ≡ is_sound t table
  unfolding sound_view
  told_some =
      by_test (λ (o : Option View). is_some o ≡ is_sound t table) (is_sound t table) (view_of table) None
      (λ (e : is_sound t table ≡ true). known_some e ∙ sym e)
      (λ (e : is_sound t table ≡ false). sym e)

  pub told_sound_by : (o : Option View) → o ≡ sound_view t table → is_some o ≡ is_sound t table
  told_sound_by o is = ap is_some is ∙ told_some

  pub told_unsound : None ≡ sound_view t table → is_sound t table ≡ false
  told_unsound is = sym (told_sound_by None is)

  refused : is_sound t table ≡ false → None ≡ sound_view t table
  unfolding sound_view
  refused e = sym (if_false _ _ e)

-- ---- what the view that is handed on tells

module _ (t table : List ℕ) (v : View) (is : Some v ≡ sound_view t table) where
  pub told_sound : is_sound t table ≡ true
  told_sound = sym (told_sound_by t table (Some v) is)

  pub told_rooms : Rooms table v
  unfolding sound_view
  told_rooms = view_rooms table v (is ∙ if_true _ _ told_sound)

  pub told_records : SoundRecords table
  unfolding is_sound
  told_records = record { bytes = length t; sound = both_second _ _ (both_second _ _ told_sound) }

-- ---- the same for a table that is known to be sound

pub known_view : (t table : List ℕ) → is_sound t table ≡ true → (v : View) → Some v ≡ view_of table → Some v ≡ sound_view t table
unfolding sound_view
known_view t table sound v e = e ∙ sym (if_true _ _ sound)

-- ---- what is known at each `return`; v is the view of the table

pub sound_unfit : (t table : List ℕ) → None ≡ view_of table → None ≡ sound_view t table
unfolding is_sound
sound_unfit t table none = refused t table (both_not_left _ _ (sym (ap is_some none)))

module _ (table : List ℕ) (v : View) (is_view : Some v ≡ view_of table) where
  pub sound_rooms : Rooms table v
  sound_rooms = view_rooms table v is_view

  pub sound_end : v.end ≤ length table
  sound_end = (viewed table v is_view).ends

  pub sound_value_room : base_of v values + value_width * count_of v values ≤ length table
  sound_value_room = sound_rooms.value_room

  pub sound_few_values : count_of v values ≤ most_values
  sound_few_values = sound_rooms.few_values

  module _ (t : List ℕ) (zeros : Bool) (told : zeros ≡ are_zeros (drop v.end table)) where
    there : is_some (view_of table) ≡ true
    there = sym (ap is_some is_view)

    zeros_placed : zeros ≡ are_zeros (drop (placed table).end table)
    zeros_placed = told ∙ ap (λ (w : View). are_zeros (drop w.end table)) (view_placed table v is_view)

    pub sound_not_zero : not zeros ≡ true → None ≡ sound_view t table
    unfolding is_sound
    sound_not_zero e = refused t table (both_rest _ _ there ∙ both_not_left _ _ (sym zeros_placed ∙ not-true zeros e))

    module _ (e : not zeros ≡ false) (sound : Bool) (is : sound ≡ are_parts (length t) table v 0 part_count) where
      sound_is : sound ≡ is_sound t table
      unfolding is_sound
      sound_is =
          is ∙ parts_sound (length t) table v ∙ ap (are_sound (length t)) sound_rooms.records
          ∙ sym (both_rest _ _ there ∙ both_rest _ _ (sym zeros_placed ∙ not-false zeros e))

      pub sound_parts_fail : not sound ≡ true → None ≡ sound_view t table
      sound_parts_fail n = refused t table (sym sound_is ∙ not-true sound n)

      pub sound_parts : not sound ≡ false → Some v ≡ sound_view t table
      sound_parts n = known_view t table (sym sound_is ∙ not-false sound n) v is_view
