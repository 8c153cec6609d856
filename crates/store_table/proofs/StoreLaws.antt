-- Laws of the whole table: what is staged of a text, stored part by part before the values, is the text's table.
-- Assumes nothing.
use mathlib.Core.Path.{◌≡◌, refl, sym, ◌∙◌, ap}
use mathlib.Core.Bool.{true, false}
use mathlib.Core.List.{List, [], ◌∷◌, ◌++◌, map, map-map, append_assoc, append-nil}
use Prim.Native.Nat.{ℕ, ◌+◌, ◌-◌, ◌*◌, ◌^◌, ◌≤◌, ◌<◌}
use native.Mathlib.Nat.{mul-le-mul, le_refl, le_trans}
use native.Mathlib.Omega.{arith}
use lib.ListN.{length, take, drop, replicate, length-append, length-map, take-append-drop, length-replicate}
use lib.Seq.{sets, sets-eq, length-sets, drop_at, length-take-le}
use lib.Dec.{eqb, leb, ltb}
use borrow.Author.Tests.{eqb-true}
use Rattle.base.proofs.IfLaws.{if_true, if_false, by_cases}
use Rattle.base.proofs.StoreLaws.{sets_append}
use Rattle.table_layout.specs.Codes.{end_kind, section_kind}
use Rattle.table_layout.specs.Bounds.{most_models, most_steps, most_maps, most_pins, most_sections, most_matrices, most_values}
use Rattle.table_layout.specs.Layout.{joined, layout, chopped, needed, widths, values, map_width, pin_width, section_width, matrix_width, value_width}
use Rattle.table_layout.specs.Way.Bases.{part_base, bases_from, BoundedCounts}
use Rattle.table_layout.proofs.LayoutLaws.{chopped_joined}
use Rattle.table_layout.proofs.StoreLaws.{bounds_small}
use Rattle.table_record.specs.Records.{parts_of, model_words, step_words, map_words, pin_words, section_words, matrix_words, value_words}
use Rattle.table_record.specs.Way.Stage.{words_of, Whole, staged_from, staged_model_width, staged_model_at, staged_step_width, staged_step_words, staged_step_at}
use Rattle.table_record.specs.declared.ModelRecord.{ModelRecord}
use Rattle.table_record.specs.declared.StepRecord.{StepRecord}
use Rattle.table_record.specs.declared.MapRecord.{MapRecord}
use Rattle.table_record.specs.declared.SectionRecord.{SectionRecord}
use Rattle.table_record.specs.declared.Value.{Value}
use Rattle.table_record.specs.declared.stage.StagedModel.{StagedModel}
use Rattle.table_record.specs.declared.stage.StagedStep.{StagedStep}
use Rattle.table_record.proofs.StageLaws.{step_back, staged_back}
use Rattle.table_record.proofs.BackLaws.{all_wide}
use Rattle.table_name.specs.Name.{name_at}
use Rattle.table_name.specs.Way.Search.{is_named, find_in}
use Rattle.table_name.proofs.NameLaws.{find_map, find_section}
use Rattle.line_keyword.specs.declared.Counts.{Counts}
use Rattle.read_line.specs.Reading.{reading_of}
use Rattle.read_line.specs.declared.Reading.TheVariants.{Read}
use Rattle.doc.specs.Lines.{significant, gather}
use Rattle.doc.specs.Document.{Document, Named, Step, Map, Section, step_of, pin_at, document_of}
use Rattle.doc.specs.Records.{index_of, target_of, step_record, step_records, model_records, map_records, pin_record, pin_records, section_records, matrices_of, matrix_records, values_of, flatten, table_of}
use Rattle.doc.specs.Holds.{Each}
use Rattle.doc.specs.Holds.Each.{none, more}
use Rattle.doc.specs.Way.Holds.{Stands, counts_of}
use Rattle.doc.specs.Way.Staged.{staged_models, staged_step, step_staged, pin_staged, StagedText}
use Rattle.doc.proofs.StandsLaws.{each_join, StepStands, MapStands, all_stand, steps_stand}
use Rattle.doc.proofs.OrderLaws.{EndOrdered, ends_ordered}
use Rattle.doc.proofs.StagedLaws.{models_told, models_staged}
use Rattle.doc.proofs.PassLaws.{steps_of_text, pins_of_text, pins_joined, steps_joined}
use Rattle.doc.proofs.CountLaws.{many_models, many_steps, many_maps, many_pins, many_sections, many_matrices, many_values, models_long, maps_long, sections_long_lem, matrices_long, counts_agree, counts_bounded, table_long}
use Rattle.store_table.specs.Way.Targets.{Targets, target_found, record_found, Roomy}
use Rattle.store_table.specs.Way.Front.{part_words, targets_of, model_stored, step_stored, models_words, steps_words, family_words, family_long, FamilyThere, sections_words, sections_long}
use Rattle.store_table.proofs.FrontLaws.{family_long_lem, sections_length}

-- ---- a part of which all records are staged

module _ {A : Type 0} (words : A → List ℕ) (width : ℕ) (xs : List A) (stage : List ℕ) (whole : Whole words width xs stage)
    (fits : width * length xs ≤ length stage) where
  pub part_is : (count : ℕ) → count ≡ length xs → part_words width count stage ≡ length xs ∷ joined (map words xs)
  unfolding part_words words_of
  part_is count e = (λ i. e i ∷ take (width * e i) stage) ∙ ap (λ (r : List ℕ). length xs ∷ r) (whole.all fits)

  pub records_are : ((x : A) → length (words x) ≡ width) → (count : ℕ) → count ≡ length xs → chopped width count (drop 0 stage) ≡ map words xs
  unfolding words_of
  records_are wide count e =
      let n : count ≡ length (map words xs) = e ∙ sym (length-map xs words) in
      ap (chopped width count) (sym (take-append-drop (width * length xs) stage) ∙ ap (λ (r : List ℕ). r ++ drop (width * length xs) stage) (whole.all fits))
      ∙ ap (λ (k : ℕ). chopped width k (joined (map words xs) ++ drop (width * length xs) stage)) n
      ∙ chopped_joined (all_wide words width wide xs) (drop (width * length xs) stage)

-- ---- the staged steps

steps_back : (xs : List Step) (stage : List ℕ) → take (staged_step_width * length xs) stage ≡ words_of step_staged xs →
    staged_from (staged_step_at stage) staged_step_width 0 (length xs) ≡ map staged_step xs
unfolding words_of
steps_back xs stage e =
    let n : length (map staged_step xs) ≡ length xs = length-map xs staged_step in
    ap (staged_from (staged_step_at stage) staged_step_width 0) (sym n)
    ∙ staged_back staged_step_words staged_step_width (λ (x : StagedStep). refl) staged_step_at step_back (map staged_step xs) stage 0
    (ap (λ (k : ℕ). take (staged_step_width * k) stage) n ∙ e ∙ ap joined (sym (map-map staged_step_words staged_step xs)))

-- ---- what they point at

module _ (t : List ℕ) (x : Targets) (maps : List Map) (sections : List Section)
    (maps_there : chopped map_width x.map_count (drop 0 x.maps) ≡ map map_words (map_records 0 maps))
    (sections_there : chopped section_width x.section_count (drop 0 x.sections) ≡ map section_words (section_records 0 sections))
    (maps_stand : Each (MapStands t) maps) (sections_stand : Each (λ (y : Section). Stands t y.name) sections) where
  module _ (s : Step) (stands : StepStands t s) (ordered : EndOrdered maps s) where
    name_is : name_at t s.name.start (length s.name.text) ≡ s.name.text
    unfolding name_at
    name_is = stands.name.bytes

    target_is : target_found t x (staged_step s) ≡ target_of maps sections s
    unfolding target_found target_of staged_step find_in
    target_is =
        by_cases _ (eqb s.kind end_kind)
        (λ (e : eqb s.kind end_kind ≡ true).
        if_true _ _ e
        ∙ (λ i. index_of (is_named t (name_is i) s.name.start) (maps_there i))
        ∙ find_map t s s.name.start 0 maps
        (each_join (λ (m : Map) (h : MapStands t m) (k : leb s.name.start m.name.start ≡ ltb s.line m.line). record { stands = h.name; behind = k })
        maps_stand (ordered (eqb-true _ _ e)))
        ∙ sym (if_true _ _ e))
        (λ (e : eqb s.kind end_kind ≡ false).
        if_false _ _ e
        ∙ by_cases _ (eqb s.kind section_kind)
        (λ (f : eqb s.kind section_kind ≡ true).
        if_true _ _ f
        ∙ (λ i. index_of (is_named t (name_is i) 0) (sections_there i))
        ∙ find_section t s 0 sections sections_stand
        ∙ sym (if_true _ _ f))
        (λ (f : eqb s.kind section_kind ≡ false). if_false _ _ f ∙ sym (if_false _ _ f))
        ∙ sym (if_false _ _ e))

    record_is : record_found t x (staged_step s) ≡ step_record maps sections s
    unfolding record_found step_record staged_step
    record_is = λ i. record { kind = s.kind; target = target_is i; amount = s.amount; side = s.side.start; side_size = length s.side.text; line = s.line }

  records_found : {xs : List Step} → Each (StepStands t) xs → Each (EndOrdered maps) xs → map (record_found t x) (map staged_step xs) ≡ map (step_record maps sections) xs
  records_found none none = refl
  records_found (more {x = s} h hs) (more k ks) = λ i. record_is s h k i ∷ records_found hs ks i

-- a part as the layout has it
abbrev laid : {A : Type 0} → (A → List ℕ) → List A → List ℕ
laid words xs = length (map words xs) ∷ joined (map words xs)

put_together : (p q r s x y v : List ℕ) (n : ℕ) → ((p ++ (q ++ (r ++ s))) ++ (x ++ (y ++ (n ∷ [])))) ++ v ≡ p ++ (q ++ (r ++ (s ++ (x ++ (y ++ ((n ∷ v) ++ []))))))
put_together p q r s x y v n = simp (append_assoc, append-nil)

-- ---- a text that reads to its end, of which all is staged

module _ (t : List ℕ) (c : Counts) (reads : reading_of t ≡ Read c) (table models steps maps pins sections matrices : List ℕ)
    (roomy : Roomy models steps maps pins sections matrices) where
  abbrev d : Document
  d = document_of t

  abbrev all_steps : List Step
  all_steps = gather step_of (significant t)

  abbrev all_pins : List Named
  all_pins = gather pin_at (significant t)

  models_many : c.models ≡ length (model_records 0 d.models)
  models_many = sym (models_long 0 d.models ∙ many_models t c reads)

  steps_counted : c.steps ≡ length all_steps
  steps_counted = sym (ap length (sym (steps_of_text t)) ∙ many_steps t c reads)

  maps_many : c.maps ≡ length (map_records 0 d.maps)
  maps_many = sym (maps_long 0 d.maps ∙ many_maps t c reads)

  pins_counted : c.pins ≡ length all_pins
  pins_counted = sym (ap length (sym (pins_of_text t)) ∙ many_pins t c reads)

  sections_many : c.sections ≡ length (section_records 0 d.sections)
  sections_many = sym (sections_long_lem 0 d.sections ∙ many_sections t c reads)

  matrices_many : c.matrices ≡ length (matrix_records 0 (matrices_of d.sections))
  matrices_many = sym (matrices_long 0 (matrices_of d.sections) ∙ many_matrices t c reads)

  bounded : (count most width : ℕ) (stage : List ℕ) → count ≤ most → width * most ≤ length stage → width * count ≤ length stage
  bounded count most width stage few room = le_trans (mul-le-mul (le_refl width) few) room

  pub counts_few : BoundedCounts (counts_of c)
  counts_few = record { few = λ (p : ℕ). le_trans (counts_bounded t c reads p) (bounds_small p) }

  pub family_there : FamilyThere c models steps maps pins sections
  unfolding counts_of
  family_there =
      record {
        models_there = bounded c.models most_models staged_model_width models (counts_bounded t c reads 0) roomy.models_fit;
        steps_there = bounded c.steps most_steps staged_step_width steps (counts_bounded t c reads 1) roomy.steps_fit;
        maps_there = bounded c.maps most_maps map_width maps (counts_bounded t c reads 2) roomy.maps_fit;
        pins_there = bounded c.pins most_pins pin_width pins (counts_bounded t c reads 3) roomy.pins_fit;
        sections_there = bounded c.sections most_sections section_width sections (counts_bounded t c reads 4) roomy.sections_fit;
      }

  pub matrices_there : matrix_width * c.matrices ≤ length matrices
  unfolding counts_of
  matrices_there = bounded c.matrices most_matrices matrix_width matrices (counts_bounded t c reads 5) roomy.matrices_fit

  pub many_few : (many : List ℕ) → many ≡ counts_of c → BoundedCounts many
  many_few many e = rw e counts_few

  pub values_small : value_width * c.values < 2 ^ 64
  unfolding counts_of
  values_small = let h : c.values ≤ most_values = counts_bounded t c reads 6 in omega arith

  -- where the values begin, and where they end
  pub base_is : part_base (counts_of c) values ≡ family_long c + sections_long c
  unfolding counts_of bases_from
  base_is = omega arith

  pub needed_is : needed widths (counts_of c) ≡ family_long c + sections_long c + value_width * c.values
  unfolding counts_of needed
  needed_is = omega arith

  module _ (staged : StagedText t table models steps maps pins sections matrices) where
    there : FamilyThere c models steps maps pins sections
    there = family_there

    targets : Targets
    targets = targets_of c maps sections

    steps_words_lem : steps_words t targets c.steps steps ≡ length all_steps ∷ joined (map step_words (step_records d.maps d.sections d.models))
    unfolding steps_words words_of targets
    steps_words_lem =
        let fits : staged_step_width * length all_steps ≤ length steps = rw (sym steps_counted) there.steps_there in
        let back : staged_from (staged_step_at steps) staged_step_width 0 (length all_steps) ≡ map staged_step all_steps =
        steps_back all_steps steps (staged.steps_are.all fits) in
        let found : map (record_found t targets) (map staged_step all_steps) ≡ map (step_record d.maps d.sections) all_steps =
        records_found t targets d.maps d.sections
        (records_are map_words map_width (map_records 0 d.maps) maps staged.maps_are (rw (sym maps_many) there.maps_there) (λ (x : MapRecord). refl) c.maps maps_many)
        (records_are section_words section_width (section_records 0 d.sections) sections staged.sections_are (rw (sym sections_many) there.sections_there) (λ (x : SectionRecord). refl) c.sections sections_many)
        (all_stand t).maps (all_stand t).sections (steps_stand t) (ends_ordered t c reads) in
        let same : map (step_record d.maps d.sections) all_steps ≡ step_records d.maps d.sections d.models =
        ap (map (step_record d.maps d.sections)) (sym (steps_of_text t)) ∙ sym (steps_joined d.maps d.sections d.models) in
        (λ i. steps_counted i ∷ joined (map (step_stored t targets) (staged_from (staged_step_at steps) staged_step_width 0 (steps_counted i))))
        ∙ ap (λ (xs : List StagedStep). length all_steps ∷ joined (map (step_stored t targets) xs)) back
        ∙ ap (λ (ws : List (List ℕ)). length all_steps ∷ joined ws) (sym (map-map step_words (record_found t targets) (map staged_step all_steps)))
        ∙ ap (λ (rs : List StepRecord). length all_steps ∷ joined (map step_words rs)) (found ∙ same)

    pins_words : part_words pin_width c.pins pins ≡ length all_pins ∷ joined (map pin_words (pin_records d.maps))
    pins_words =
        part_is pin_staged pin_width all_pins pins staged.pins_are (rw (sym pins_counted) there.pins_there) c.pins pins_counted
        ∙ ap (λ (rs : List (List ℕ)). length all_pins ∷ joined rs)
        (sym (map-map pin_words pin_record all_pins) ∙ ap (map pin_words) (ap (map pin_record) (sym (pins_of_text t)) ∙ sym (pins_joined d.maps)))

    counted_part : {A : Type 0} (words : A → List ℕ) (xs : List A) → ◌≡◌ {A = List ℕ} (length xs ∷ joined (map words xs)) (laid words xs)
    counted_part words xs = ap (λ (n : ℕ). n ∷ joined (map words xs)) (sym (length-map xs words))

    models_part : models_words c.models models ≡ laid model_words (model_records 0 d.models)
    unfolding models_words words_of
    models_part =
        let back : staged_from (staged_model_at models) staged_model_width 0 c.models ≡ staged_models 0 d.models =
        models_staged t c reads models (record { whole = staged.models_are; room = roomy.models_fit }) in
        let n : c.models ≡ length (map model_words (model_records 0 d.models)) = models_many ∙ sym (length-map (model_records 0 d.models) model_words) in
        ap (λ (xs : List StagedModel). c.models ∷ joined (map model_stored xs)) back
        ∙ ap (λ (ws : List (List ℕ)). c.models ∷ joined ws) (sym (map-map model_words (λ (x : StagedModel). x.model) (staged_models 0 d.models)))
        ∙ ap (λ (rs : List ModelRecord). c.models ∷ joined (map model_words rs)) (models_told 0 d.models)
        ∙ ap (λ (k : ℕ). k ∷ joined (map model_words (model_records 0 d.models))) n

    maps_part : part_words map_width c.maps maps ≡ laid map_words (map_records 0 d.maps)
    maps_part =
        part_is map_words map_width (map_records 0 d.maps) maps staged.maps_are (rw (sym maps_many) there.maps_there) c.maps maps_many
        ∙ counted_part map_words (map_records 0 d.maps)

    sections_part : part_words section_width c.sections sections ≡ laid section_words (section_records 0 d.sections)
    sections_part =
        part_is section_words section_width (section_records 0 d.sections) sections staged.sections_are (rw (sym sections_many) there.sections_there) c.sections sections_many
        ∙ counted_part section_words (section_records 0 d.sections)

    matrices_part : part_words matrix_width c.matrices matrices
        ≡ laid matrix_words (matrix_records 0 (matrices_of d.sections))
    matrices_part =
        part_is matrix_words matrix_width (matrix_records 0 (matrices_of d.sections)) matrices staged.matrices_are (rw (sym matrices_many) matrices_there) c.matrices matrices_many
        ∙ counted_part matrix_words (matrix_records 0 (matrices_of d.sections))

    steps_part : steps_words t targets c.steps steps
        ≡ laid step_words (step_records d.maps d.sections d.models)
    steps_part =
        let rs : List StepRecord = step_records d.maps d.sections d.models in
        let same : rs ≡ map (step_record d.maps d.sections) all_steps =
        steps_joined d.maps d.sections d.models ∙ ap (map (step_record d.maps d.sections)) (steps_of_text t) in
        let n : length all_steps ≡ length (map step_words rs) = sym (length-map rs step_words ∙ ap length same ∙ length-map all_steps (step_record d.maps d.sections)) in
        steps_words_lem ∙ ap (λ (k : ℕ). k ∷ joined (map step_words rs)) n

    pins_part : part_words pin_width c.pins pins ≡ laid pin_words (pin_records d.maps)
    pins_part =
        let same : pin_records d.maps ≡ map pin_record all_pins = pins_joined d.maps ∙ ap (map pin_record) (pins_of_text t) in
        let n : length all_pins ≡ length (map pin_words (pin_records d.maps)) =
        sym (length-map (pin_records d.maps) pin_words ∙ ap length same ∙ length-map all_pins pin_record) in
        pins_words ∙ ap (λ (k : ℕ). k ∷ joined (map pin_words (pin_records d.maps))) n

    all_values : List Value
    all_values = values_of (matrices_of d.sections)

    values_many : c.values ≡ length (map value_words all_values)
    unfolding all_values
    values_many = sym (length-map all_values value_words ∙ many_values t c reads)

    values_all : value_width * length all_values ≤ length table → take (value_width * length all_values) table ≡ joined (map value_words all_values)
    unfolding words_of all_values
    values_all h = staged.values_are.all h

    -- the words before the values, and the values
    pub all_words : value_width * c.values ≤ length table →
        (family_words t c models steps maps pins sections ++ sections_words c sections matrices) ++ take (value_width * c.values) table ≡ table_of t
    unfolding family_words sections_words table_of layout parts_of flatten targets all_values
    all_words room =
        let n : c.values ≡ length all_values = sym (many_values t c reads) in
        let values_part : take (value_width * c.values) table ≡ joined (map value_words all_values) =
        ap (λ (k : ℕ). take (value_width * k) table) n ∙ values_all (rw (sym n) room) in
        (λ i. ((models_part i ++ (steps_part i ++ (maps_part i ++ pins_part i))) ++ (sections_part i ++ (matrices_part i ++ (values_many i ∷ [])))) ++ values_part i)
        ∙ put_together (laid model_words (model_records 0 d.models)) (laid step_words (step_records d.maps d.sections d.models))
        (laid map_words (map_records 0 d.maps)) (laid pin_words (pin_records d.maps)) (laid section_words (section_records 0 d.sections))
        (laid matrix_words (matrix_records 0 (matrices_of d.sections))) (joined (map value_words all_values)) (length (map value_words all_values))

    -- ---- one store after another

    module _ (room : needed widths (counts_of c) ≤ length table) (many : List ℕ) (is_many : many ≡ counts_of c) (up : ℕ) (is_up : up ≡ part_base many values) where
      up_is : up ≡ family_long c + sections_long c
      up_is = is_up ∙ ap (λ (ns : List ℕ). part_base ns values) is_many ∙ base_is

      pub lift_room : up + value_width * c.values ≤ length table
      lift_room =
          let n : needed widths (counts_of c) ≡ family_long c + sections_long c + value_width * c.values = needed_is in
          let u : up ≡ family_long c + sections_long c = up_is in
          omega arith

      module _ (t₁ : List ℕ) (moved : t₁ ≡ take up table ++ (take (value_width * c.values) table ++ replicate (length table - (up + value_width * c.values)) 0)) where
        moved_long : length t₁ ≡ length table
        moved_long =
            let a : up + value_width * c.values ≤ length table = lift_room in
            let v : List ℕ = take (value_width * c.values) table in
            let z : List ℕ = replicate (length table - (up + value_width * c.values)) 0 in
            let l : length (take up table) ≡ up = length-take-le up table (omega arith) in
            let m : length v ≡ value_width * c.values = length-take-le (value_width * c.values) table (omega arith) in
            let n : length z ≡ length table - (up + value_width * c.values) = length-replicate (length table - (up + value_width * c.values)) 0 in
            let f : length (take up table ++ (v ++ z)) ≡ length (take up table) + length (v ++ z) = length-append (take up table) (v ++ z) in
            let g : length (v ++ z) ≡ length v + length z = length-append v z in
            ap length moved ∙ (let e : length (take up table ++ (v ++ z)) ≡ length table = omega arith in e)

        pub family_room : FamilyThere c models steps maps pins sections × (family_long c ≤ length t₁)
        family_room =
            let a : up + value_width * c.values ≤ length table = lift_room in
            let u : up ≡ family_long c + sections_long c = up_is in
            let l : length t₁ ≡ length table = moved_long in
            (there, omega arith)

        module _ (t₂ : List ℕ) (at : ℕ) (first : (at ≡ family_long c) × (t₂ ≡ sets t₁ 0 (family_words t c models steps maps pins sections))) where
          pub sections_room : (section_width * c.sections ≤ length sections) × (matrix_width * c.matrices ≤ length matrices) × (at + sections_long c ≤ length t₂)
          sections_room =
              let a : up + value_width * c.values ≤ length table = lift_room in
              let u : up ≡ family_long c + sections_long c = up_is in
              let l : length t₁ ≡ length table = moved_long in
              let m : length t₂ ≡ length t₁ = ap length first.1 ∙ length-sets t₁ 0 (family_words t c models steps maps pins sections) in
              let e : at ≡ family_long c = first.0 in
              (there.sections_there, matrices_there, omega arith)

          pub stored : (t₃ : List ℕ) → t₃ ≡ sets t₂ at (sections_words c sections matrices) → t₃ ≡ table_of t ++ replicate (length table - length (table_of t)) 0
          stored t₃ second =
              let f : List ℕ = family_words t c models steps maps pins sections in
              let g : List ℕ = sections_words c sections matrices in
              let v : List ℕ = take (value_width * c.values) table in
              let a : up + value_width * c.values ≤ length table = lift_room in
              let u : up ≡ family_long c + sections_long c = up_is in
              let l : length f ≡ family_long c = family_long_lem t c models steps maps pins sections there in
              let m : length g ≡ sections_long c = sections_length c sections matrices there.sections_there matrices_there in
              let o : length (f ++ g) ≡ length f + length g = length-append f g in
              let w : length (take up table) ≡ up = length-take-le up table (omega arith) in
              let same : length (f ++ g) ≡ up = omega arith in
              let n : length t₁ ≡ length table = moved_long in
              let e : at ≡ family_long c = first.0 in
              let x : 0 + length f ≡ at = omega arith in
              let fits : 0 + length (f ++ g) ≤ length t₁ = omega arith in
              let k : 0 + length (f ++ g) ≡ up = omega arith in
              let long : length (table_of t) ≡ up + value_width * c.values =
              table_long t ∙ ap (needed widths) (counts_agree t c reads) ∙ needed_is ∙ ap (λ (z : ℕ). z + value_width * c.values) (sym u) in
              second
              ∙ (λ i. sets (first.1 i) (sym x i) g)
              ∙ sym (sets_append t₁ 0 f g)
              ∙ sets-eq (f ++ g) t₁ 0 fits
              ∙ (λ i. (f ++ g) ++ drop (k i) (moved i))
              ∙ ap (λ (r : List ℕ). (f ++ g) ++ r) (drop_at (take up table) (v ++ replicate (length table - (up + value_width * c.values)) 0) up w)
              ∙ sym (append_assoc (f ++ g) v (replicate (length table - (up + value_width * c.values)) 0))
              ∙ (λ i. all_words (omega arith) i ++ replicate (length table - sym long i) 0)
