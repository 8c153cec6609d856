-- The view of the table of a text: the records of each part are those of the document.
-- Assumes nothing.
use mathlib.Core.Path.{◌≡◌, sym, ◌∙◌, ap, refl}
use mathlib.Core.Bool.{true}
use mathlib.Core.List.{List, [], map}
use Prim.Native.Nat.{ℕ, ◌-◌}
use lib.ListN.{length, get_or, replicate, get_or-map}
use Rattle.table_layout.specs.Bounds.{bounds}
use Rattle.table_record.specs.Records.{Records, parts_of, records_of}
use Rattle.table_record.specs.Way.Standing.{places, model_at, step_at, map_at, pin_at, section_at, matrix_at, base_of, count_of, places_of, records_at, Rooms}
use Rattle.table_record.proofs.RecordLaws.{view_rooms, models_long, steps_long, maps_long, pins_long, sections_long_lem, matrices_long}
use Rattle.line_keyword.specs.declared.Counts.{Counts}
use Rattle.table_layout.specs.Layout.{models, steps, maps, pins, sections, matrices, model_width, step_width, map_width, pin_width, section_width, matrix_width}
use Rattle.doc.specs.Document.{Document, document_of}
use Rattle.doc.specs.Records.{model_records, step_records, map_records, pin_records, section_records, matrices_of, matrix_records, flatten, table_of}
use Rattle.doc.specs.Way.Holds.{counts_of}
use Rattle.table_record.proofs.BackLaws.{records_wide, records_back}
use Rattle.doc.proofs.CountLaws.{counts_agree, counts_bounded}
use Rattle.doc.proofs.CountLaws as long
use Rattle.std.specs.Prelude.{Some}
use Rattle.table_layout.specs.View.{placed, view_of}
use Rattle.table_layout.specs.declared.View.{View}
use Rattle.table_layout.proofs.LaidLaws.{AllFew, all_few, laid_view}
use Rattle.cross_rules.specs.Way.HoldsText.{HoldsText}

module _ (t table : List ℕ) (filled : HoldsText t table) where
  abbrev parts : List (List (List ℕ))
  parts = parts_of (flatten (document_of t))

  abbrev c : Counts
  c = filled.counts

  counts_are : map length parts ≡ counts_of c
  counts_are = counts_agree t c filled.reads

  part_count : (p : ℕ) → length (get_or parts p []) ≡ get_or (counts_of c) p 0
  part_count p = sym (get_or-map length parts p []) ∙ ap (λ (ns : List ℕ). get_or ns p 0) counts_are

  parts_few : AllFew bounds parts
  unfolding parts_of
  parts_few = all_few bounds parts refl (λ (p : ℕ). rw (part_count p) (counts_bounded t c filled.reads p))

  pub view_fits : view_of table ≡ Some (placed table)
  unfolding table_of
  view_fits = rw filled.words (laid_view parts (replicate (length table - length (table_of t)) 0) (records_wide (flatten (document_of t))) parts_few)

  pub text_records : records_of table ≡ flatten (document_of t)
  unfolding table_of
  text_records = ap records_of filled.words ∙ records_back (flatten (document_of t)) (length table - length (table_of t))

  -- the records of each part, where the view locates them, and how many they are
  module _ (v : View) (is_view : Some v ≡ view_of table) where
    abbrev d : Document
    d = document_of t

    pub text_rooms : Rooms table v
    text_rooms = view_rooms table v is_view

    records_here : records_at table v ≡ flatten d
    records_here = text_rooms.records ∙ text_records

    pub models_here : map (model_at table) (places model_width (base_of v models) (count_of v models)) ≡ model_records 0 d.models
    unfolding records_at places_of flatten
    models_here = ap (λ (r : Records). r.models) records_here

    pub steps_here : map (step_at table) (places step_width (base_of v steps) (count_of v steps)) ≡ step_records d.maps d.sections d.models
    unfolding records_at places_of flatten
    steps_here = ap (λ (r : Records). r.steps) records_here

    pub maps_here : map (map_at table) (places map_width (base_of v maps) (count_of v maps)) ≡ map_records 0 d.maps
    unfolding records_at places_of flatten
    maps_here = ap (λ (r : Records). r.maps) records_here

    pub pins_here : map (pin_at table) (places pin_width (base_of v pins) (count_of v pins)) ≡ pin_records d.maps
    unfolding records_at places_of flatten
    pins_here = ap (λ (r : Records). r.pins) records_here

    pub sections_here : map (section_at table) (places section_width (base_of v sections) (count_of v sections)) ≡ section_records 0 d.sections
    unfolding records_at places_of flatten
    sections_here = ap (λ (r : Records). r.sections) records_here

    pub matrices_here : map (matrix_at table) (places matrix_width (base_of v matrices) (count_of v matrices)) ≡ matrix_records 0 (matrices_of d.sections)
    unfolding records_at places_of flatten
    matrices_here = ap (λ (r : Records). r.matrices) records_here

    pub many_models : count_of v models ≡ length d.models
    unfolding flatten
    many_models = sym (models_long table v text_rooms) ∙ ap (λ (r : Records). length r.models) text_records ∙ long.models_long 0 _

    pub many_steps : count_of v steps ≡ length (step_records d.maps d.sections d.models)
    unfolding flatten
    many_steps = sym (steps_long table v text_rooms) ∙ ap (λ (r : Records). length r.steps) text_records

    pub many_maps : count_of v maps ≡ length d.maps
    unfolding flatten
    many_maps = sym (maps_long table v text_rooms) ∙ ap (λ (r : Records). length r.maps) text_records ∙ long.maps_long 0 _

    pub many_pins : count_of v pins ≡ length (pin_records d.maps)
    unfolding flatten
    many_pins = sym (pins_long table v text_rooms) ∙ ap (λ (r : Records). length r.pins) text_records

    pub many_sections : count_of v sections ≡ length d.sections
    unfolding flatten
    many_sections = sym (sections_long_lem table v text_rooms) ∙ ap (λ (r : Records). length r.sections) text_records ∙ long.sections_long_lem 0 _

    pub many_matrices : count_of v matrices ≡ length (matrices_of d.sections)
    unfolding flatten
    many_matrices = sym (matrices_long table v text_rooms) ∙ ap (λ (r : Records). length r.matrices) text_records ∙ long.matrices_long 0 _
