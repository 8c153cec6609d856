-- By the records of a document, a step breaks the same rule as by the document.
-- Assumes nothing.
use mathlib.Core.Path.{◌≡◌, refl, sym, ◌∙◌, ap}
use mathlib.Core.Bool.{Bool, true, false, not}
use mathlib.Core.List.{List, [], ◌∷◌, ◌++◌, map, map-append}
use Prim.Native.Nat.{ℕ, suc, zero, ◌+◌, ◌-◌, ◌≤◌, ◌<◌}
use native.Mathlib.Nat.{zero-add, sub-zero, le_refl, not-suc-le-zero, le_of_suc-le-suc}
use native.Mathlib.Numerals.{add-one}
use native.Mathlib.Omega.{arith}
use lib.ListN.{length, get_or, take, length-append, length-map}
use lib.Seq.{get_or-append_seam, take-take, take_at}
use lib.Dec.{ltb, eqb}
use borrow.Author.Tests.{eq-eqb, ne_eqb, eqb-true, le-ltb, ltb-true, ltb-false}
use Rattle.base.specs.If.{provided◌then◌else◌, both, either}
use Rattle.base.specs.Runs.{same}
use Rattle.base.specs.Broken.{◌when◌, first_broken}
use Rattle.base.specs.Refusal as refusal
use Rattle.base.proofs.IfLaws.{if_true, if_false, by_cases, both_rest, both_not_left, both_not_right}
use Rattle.table_layout.specs.Codes.{end_kind, section_kind, mlm, lumped, distributed}
use Rattle.table_layout.specs.Layout.{sections}
use Rattle.std.specs.Prelude.{Some}
use Rattle.table_layout.specs.View.{view_of}
use Rattle.table_layout.specs.declared.View.{View}
use Rattle.table_record.specs.Records.{Records, range, no_step}
use Rattle.table_record.specs.Way.Standing.{count_of}
use Rattle.table_record.specs.declared.StepRecord.{StepRecord}
use Rattle.doc.specs.Document.{Step, Model, Section, Document, document_of}
use Rattle.doc.specs.Records.{target_of, step_record, matrices_of, flatten}
use Rattle.doc.specs.Holds.{Each}
use Rattle.doc.specs.Holds as holds
use Rattle.doc.proofs.StandsLaws.{StepStands}
use Rattle.doc.proofs.SectionLaws.{RightSection, text_sections}
use Rattle.doc.proofs.CountLaws.{maps_long, sections_long_lem, matrices_long}
use Rattle.table_name.specs.Name.{name_at}
use Rattle.cross_rules.specs.Rules.{any, same_word, pins_at, conductors_at, method_at, has_other_form, map_index, section_index, has_map, has_section, clash, is_clashing, first_end, differs, is_wrong_method, is_single_line}
use Rattle.cross_rules.specs.Way.Findings.{end_rule, section_step_rule, step_rule}
use Rattle.cross_rules.specs.Way.HoldsText.{HoldsText}
use Rattle.cross_rules.proofs.RisingLaws.{each_at}
use Rattle.cross_rules.proofs.OrderLaws.{Ordered}
use Rattle.cross_rules.proofs.TwiceLaws.{meets, clashing_above}
use Rattle.cross_rules.proofs.TableLaws.{text_records, text_rooms, many_sections, many_matrices}
use Rattle.cross_steps.specs.Way.StepWords.{
  StepRooms,
  side_of,
  clashing,
  meeting,
  meets_above,
  first_target,
  map_of,
  differs_from,
  least_of,
  section_of,
  first_matrix,
  other_in,
  other_form,
  kind_broken,
  wrong_method,
  end_rule_at,
  section_rule_at,
  step_rule_at,
}
use Rattle.cross_steps.specs.declared.Owner.{Owner}
use Rattle.cross_steps.proofs.RangeLaws.{range_at}
use Rattle.cross_steps.proofs.SectionLaws.{start_of, start_last, start_rises, start_within, pins_word, method_word, conductors_word, least_word, forms_words}

-- ---- lists

each_front : {A : Type 0} {P : A → Type 0} (xs ys : List A) → Each P (xs ++ ys) → Each P xs
each_front [] ys h = holds.Each.none
each_front (x ∷ xs) ys (holds.Each.more h hs) = holds.Each.more h (each_front xs ys hs)

-- a section that does not exist has no other form
none_other : (ss : List Section) (i : ℕ) → length ss ≤ i → has_other_form ss i ≡ false
unfolding has_other_form
none_other [] i h = refl
none_other (s ∷ ss) zero h = absurd (not-suc-le-zero h)
none_other (s ∷ ss) (suc i) h = none_other ss i (le_of_suc-le-suc h)

-- a test that only counts if another holds
guarded : (guard a b : Bool) → (guard ≡ true → a ≡ b) → both guard a ≡ both guard b
unfolding both
guarded true a b h = h refl
guarded false a b h = refl

module _ (d : Document) where
  abbrev r : Records
  r = flatten d

  many_of_maps : length r.maps ≡ length d.maps
  unfolding flatten
  many_of_maps = maps_long 0 d.maps

  many_of_sections : length r.sections ≡ length d.sections
  unfolding flatten
  many_of_sections = sections_long_lem 0 d.sections

  many_of_matrices : length r.matrices ≡ length (matrices_of d.sections)
  unfolding flatten
  many_of_matrices = matrices_long 0 (matrices_of d.sections)

  -- ---- the matrices of a section

  module _ (right : Each RightSection d.sections) where
    least_is : (i : ℕ) → i < length d.sections → least_of (section_of r i) ≡ start_of 0 d.sections i + 1
    unfolding flatten
    least_is i h = least_word 0 d.sections i right h

    first_is : (i : ℕ) → i ≤ length d.sections → first_matrix r i ≡ start_of 0 d.sections i
    unfolding first_matrix
    first_is i h =
        by_cases _ (ltb i (length r.sections))
        (λ (e : ltb i (length r.sections) ≡ true).
        let k : i < length d.sections = rw many_of_sections at (ltb-true i (length r.sections) e) in
        let w : least_of (section_of r i) ≡ start_of 0 d.sections i + 1 = least_is i k in
        let z : least_of (section_of r i) - 1 ≡ start_of 0 d.sections i = omega arith in
        if_true _ _ e ∙ z)
        (λ (e : ltb i (length r.sections) ≡ false).
        let k : length d.sections ≤ i = rw many_of_sections at (ltb-false i (length r.sections) e) in
        if_false _ _ e ∙ many_of_matrices ∙ sym (start_last 0 d.sections i k ∙ zero-add (length (matrices_of d.sections))))

    next_is : (i : ℕ) → i < length d.sections → first_matrix r (i + 1) ≡ start_of 0 d.sections (suc i)
    next_is i h = ap (first_matrix r) (add-one i) ∙ first_is (suc i) h

    forms_is : (i : ℕ) → i < length d.sections → other_form r i ≡ has_other_form d.sections i
    unfolding other_form flatten
    forms_is i h =
        let e : first_matrix r i ≡ start_of 0 d.sections i = first_is i (omega arith) in
        let f : first_matrix r i ≡ start_of 0 d.sections i - 0 = e ∙ sym (sub-zero (start_of 0 d.sections i)) in
        (λ j. other_in (range (f j) (next_is i h j - e j) r.matrices)) ∙ forms_words 0 0 d.sections i h

    matrices_rise : (i : ℕ) → i < length d.sections → first_matrix r i ≤ first_matrix r (i + 1)
    matrices_rise i h = rw (next_is i h, first_is i (omega arith)) (start_rises 0 d.sections i h)

    matrices_within : (i : ℕ) → i < length d.sections → first_matrix r (i + 1) ≤ length (matrices_of d.sections)
    matrices_within i h =
        let w : start_of 0 d.sections (suc i) ≤ 0 + length (matrices_of d.sections) = start_within 0 d.sections (suc i) in
        rw (next_is i h) (omega arith)

  -- ---- the target of a step

  abbrev record_of : Step → StepRecord
  record_of s = step_record d.maps d.sections s

  pins_is : (i : ℕ) → (map_of r i).pins ≡ pins_at d.maps i
  unfolding flatten
  pins_is i = pins_word 0 d.maps i

  method_is : (i : ℕ) → (section_of r i).method ≡ method_at d.sections i
  unfolding flatten
  method_is i = method_word 0 d.sections i

  conductors_is : (i : ℕ) → (section_of r i).conductors ≡ conductors_at d.sections i
  unfolding flatten
  conductors_is i = conductors_word 0 d.sections i

  kind_of_lem : (s : Step) → (record_of s).kind ≡ s.kind
  unfolding step_record
  kind_of_lem s = refl

  end_target : (s : Step) → s.kind ≡ end_kind → (record_of s).target ≡ map_index d s
  unfolding step_record target_of
  end_target s e = if_true _ _ (eq-eqb _ _ e)

  section_target : (s : Step) → s.kind ≡ section_kind → (record_of s).target ≡ section_index d s
  unfolding step_record target_of
  section_target s e =
      if_false _ _ (ne_eqb _ _ (λ (z : s.kind ≡ end_kind). let y : section_kind ≡ end_kind = sym e ∙ z in omega arith)) ∙ if_true _ _ (eq-eqb _ _ e)

  -- ---- the ends before an end

  module _ (t : List ℕ) (s : Step) (stands : StepStands t s) where
    side_is : (x : Step) → StepStands t x → side_of t (record_of x) ≡ x.side.text
    unfolding side_of name_at step_record
    side_is x stand = stand.side.bytes

    size_is : (x : Step) → (record_of x).side_size ≡ length x.side.text
    unfolding step_record
    size_is x = refl

    clash_is : (x : Step) → StepStands t x → clashing t (record_of x) (record_of s) ≡ clash x.side s.side
    unfolding clashing clash same_word
    clash_is x stand = λ i. either (eqb (size_is x i) 0) (either (eqb (size_is s i) 0) (same (side_is x stand i) (side_is s stands i)))

    module _ (end : s.kind ≡ end_kind) where
      meets_is : (x : Step) → StepStands t x → meeting t (record_of x) (record_of s) ≡ meets d s x
      unfolding meeting meets
      meets_is x stand =
          ap (λ (k : ℕ). both (eqb k end_kind) (both (eqb (record_of x).target (record_of s).target) (clashing t (record_of x) (record_of s)))) (kind_of_lem x)
          ∙ guarded (eqb x.kind end_kind) _ _
          (λ (e : eqb x.kind end_kind ≡ true). λ i. both (eqb (end_target x (eqb-true _ _ e) i) (end_target s end i)) (clash_is x stand i))

      meets_all : {above : List Step} → Each (StepStands t) above → meets_above t (record_of s) (map record_of above) ≡ any (meets d s) above
      unfolding meets_above any
      meets_all holds.Each.none = refl
      meets_all (holds.Each.more {x = x} k ks) = λ i. either (meets_is x k i) (meets_all ks i)

  -- ---- the first end

  has_is : (s : Step) → ltb (map_index d s) (length r.maps) ≡ has_map d s
  unfolding has_map
  has_is s = ap (ltb (map_index d s)) many_of_maps

  differs_is : (many : ℕ) (steps : List Step) → differs_from r (first_target (length r.maps) (map record_of steps)) many ≡ differs d (first_end steps) many
  unfolding differs_from first_target
  differs_is many [] = both_not_left _ _ (le-ltb _ _ (le_refl (length r.maps)))
  differs_is many (x ∷ steps) =
      by_cases _ (eqb x.kind end_kind)
      (λ (e : eqb x.kind end_kind ≡ true).
      let k : eqb (record_of x).kind end_kind ≡ true = rw (kind_of_lem x) e in
      let f : (provided eqb (record_of x).kind end_kind then (record_of x).target else first_target (length r.maps) (map record_of steps)) ≡ map_index d x =
      if_true _ _ k ∙ end_target x (eqb-true _ _ e) in
      let g : (provided eqb x.kind end_kind then x ∷ [] else first_end steps) ≡ x ∷ [] = if_true _ _ e in
      rw (f, g) (λ i. both (has_is x i) (not (eqb many (pins_is (map_index d x) i)))))
      (λ (e : eqb x.kind end_kind ≡ false).
      let k : eqb (record_of x).kind end_kind ≡ false = rw (kind_of_lem x) e in
      let f : (provided eqb (record_of x).kind end_kind then (record_of x).target else first_target (length r.maps) (map record_of steps))
      ≡ first_target (length r.maps) (map record_of steps) = if_false _ _ k in
      let g : (provided eqb x.kind end_kind then x ∷ [] else first_end steps) ≡ first_end steps = if_false _ _ e in
      rw (f, g) (differs_is many steps))

-- ---- what the code requires of the table

module _ (t table : List ℕ) (filled : HoldsText t table) (v : View) (is_view : Some v ≡ view_of table) where
  right : Each RightSection (document_of t).sections
  right = text_sections t filled.counts filled.reads

  pub step_rooms : StepRooms table v
  step_rooms =
      record {
        rooms = text_rooms t table filled v is_view;
        ordered =
            λ (i : ℕ) (h : i < count_of v sections).
            rw (text_records t table filled) (matrices_rise (document_of t) right i (rw (many_sections t table filled v is_view) at h));
        bounded =
            λ (i : ℕ) (h : i < count_of v sections).
            rw (text_records t table filled, many_matrices t table filled v is_view)
            (matrices_within (document_of t) right i (rw (many_sections t table filled v is_view) at h));
      }

-- ---- the rules

-- `o` holds what the rules need to know of the model m
pub record Owns (d : Document) (o : Owner) (m : Model) : Type 0 where
  pub kind : o.kind ≡ m.type
  pub steps : range o.from (length m.steps) (flatten d).steps ≡ map (step_record d.maps d.sections) m.steps
  pub first : o.first ≡ first_target (length (flatten d).maps) (map (step_record d.maps d.sections) m.steps)

module _ (t : List ℕ) (d : Document) (right : Each RightSection d.sections) (ordered : Ordered d) (before behind : List Model) (m : Model)
    (split : d.models ≡ before ++ (m ∷ behind)) (stand : Each (StepStands t) m.steps) (o : Owner) (owns : Owns d o m)
    (above below : List Step) (s : Step) (steps : m.steps ≡ above ++ (s ∷ below)) where
  abbrev own : StepRecord
  own = record_of d s

  inside : length above < length m.steps
  inside =
      let l : length m.steps ≡ length above + suc (length below) = ap length steps ∙ length-append above (s ∷ below) in
      omega arith

  records_split : range o.from (length m.steps) (flatten d).steps ≡ map (record_of d) above ++ (own ∷ map (record_of d) below)
  records_split = owns.steps ∙ ap (map (record_of d)) steps ∙ map-append (record_of d) above (s ∷ below)

  -- the record of the step, and those above it
  pub record_here : get_or (flatten d).steps (o.from + length above) no_step ≡ own
  record_here =
      sym (range_at no_step (flatten d).steps o.from (length m.steps) (length above) inside)
      ∙ ap (λ (rs : List StepRecord). get_or rs (length above) no_step) records_split
      ∙ ap (λ (n : ℕ). get_or (map (record_of d) above ++ (own ∷ map (record_of d) below)) n no_step) (sym (length-map above (record_of d)))
      ∙ get_or-append_seam (map (record_of d) above) own (map (record_of d) below) no_step

  above_here : range o.from (length above) (flatten d).steps ≡ map (record_of d) above
  above_here =
      sym (take-take (length above) (length m.steps) _ (omega (arith, inside)))
      ∙ ap (take (length above)) records_split
      ∙ take_at (map (record_of d) above) (own ∷ map (record_of d) below) (length above) (length-map above (record_of d))

  all_stand_there : Each (StepStands t) (above ++ (s ∷ below))
  all_stand_there = rw steps at stand

  differs_here : (many : ℕ) → differs_from (flatten d) o.first many ≡ differs d (first_end m.steps) many
  differs_here many = ap (λ (f : ℕ). differs_from (flatten d) f many) owns.first ∙ differs_is d many m.steps

  module _ (end : s.kind ≡ end_kind) where
    points_map : ltb own.target (length (flatten d).maps) ≡ has_map d s
    points_map = ap (λ (n : ℕ). ltb n (length (flatten d).maps)) (end_target d s end) ∙ has_is d s

    clashing_is : both (ltb own.target (length (flatten d).maps)) (meets_above t own (range o.from (length above) (flatten d).steps)) ≡ is_clashing d m s
    clashing_is =
        let e : meets_above t own (range o.from (length above) (flatten d).steps) ≡ any (meets d s) above =
        ap (meets_above t own) above_here
        ∙ meets_all d t s (each_at above below s all_stand_there) end (each_front above (s ∷ below) all_stand_there) in
        (λ i. both (points_map i) (e i)) ∙ sym (clashing_above d ordered before behind m split above below s steps)

    pins_differ :
        both (ltb own.target (length (flatten d).maps)) (differs_from (flatten d) o.first (map_of (flatten d) own.target).pins)
        ≡ both (has_map d s) (differs d (first_end m.steps) (pins_at d.maps (map_index d s)))
    pins_differ =
        let e : (map_of (flatten d) own.target).pins ≡ pins_at d.maps (map_index d s) =
        ap (λ (n : ℕ). (map_of (flatten d) n).pins) (end_target d s end) ∙ pins_is d (map_index d s) in
        (λ i. both (points_map i) (differs_from (flatten d) o.first (e i)))
        ∙ ap (both (has_map d s)) (differs_here (pins_at d.maps (map_index d s)))

    end_is : end_rule_at t (flatten d) o own (length above) ≡ end_rule d m s
    unfolding end_rule_at end_rule
    end_is = λ i. first_broken (refusal.no_map when not (points_map i) ∷ refusal.side when clashing_is i ∷ refusal.count when pins_differ i ∷ [])

  module _ (kind : s.kind ≡ section_kind) (mult : Bool) (is_mult_lem : mult ≡ s.mult) where
    points_section : ltb own.target (length (flatten d).sections) ≡ has_section d s
    unfolding has_section
    points_section = λ i. ltb (section_target d s kind i) (many_of_sections d i)

    -- a test of the section
    with_section : (a b : Bool) → a ≡ b → both (ltb own.target (length (flatten d).sections)) a ≡ both (has_section d s) b
    with_section a b e = λ i. both (points_section i) (e i)

    wrong_is :
        both (ltb own.target (length (flatten d).sections)) (wrong_method mult (section_of (flatten d) own.target).method)
        ≡ both (has_section d s) (is_wrong_method d s)
    unfolding wrong_method is_wrong_method
    wrong_is =
        let e : (section_of (flatten d) own.target).method ≡ method_at d.sections (section_index d s) =
        ap (λ (n : ℕ). (section_of (flatten d) n).method) (section_target d s kind) ∙ method_is d (section_index d s) in
        with_section _ _ (λ i. provided is_mult_lem i then eqb (e i) distributed else eqb (e i) lumped)

    kind_is :
        both (ltb own.target (length (flatten d).sections)) (kind_broken (flatten d) o.kind own.target)
        ≡ both (is_single_line m) (has_other_form d.sections (section_index d s))
    unfolding kind_broken is_single_line has_section
    kind_is =
        (λ i. both (points_section i) (both (ltb (owns.kind i) mlm) (other_form (flatten d) (section_target d s kind i))))
        ∙ by_cases _ (has_section d s)
        (λ (e : has_section d s ≡ true). both_rest _ _ e ∙ ap (both (is_single_line m)) (forms_is d right (section_index d s) (ltb-true _ _ e)))
        (λ (e : has_section d s ≡ false).
        both_not_left _ _ e ∙ sym (both_not_right _ _ (none_other d.sections (section_index d s) (ltb-false _ _ e))))

    conductors_differ :
        both (ltb own.target (length (flatten d).sections)) (differs_from (flatten d) o.first (section_of (flatten d) own.target).conductors)
        ≡ both (has_section d s) (differs d (first_end m.steps) (conductors_at d.sections (section_index d s)))
    conductors_differ =
        let e : (section_of (flatten d) own.target).conductors ≡ conductors_at d.sections (section_index d s) =
        ap (λ (n : ℕ). (section_of (flatten d) n).conductors) (section_target d s kind) ∙ conductors_is d (section_index d s) in
        with_section _ _ (ap (differs_from (flatten d) o.first) e ∙ differs_here (conductors_at d.sections (section_index d s)))

    section_is : section_rule_at (flatten d) o own mult ≡ section_step_rule d m s
    unfolding section_rule_at section_step_rule
    section_is =
        λ i.
        first_broken
        (refusal.no_section when not (points_section i)
        ∷ refusal.method when wrong_is i
        ∷ refusal.kind when kind_is i
        ∷ refusal.count when conductors_differ i
        ∷ [])

  -- only for a Section step it matters whether the amount is a Mult
  pub step_is : (mult : Bool) → (s.kind ≡ section_kind → mult ≡ s.mult) → step_rule_at t (flatten d) o own (length above) mult ≡ step_rule d m s
  unfolding step_rule_at step_rule
  step_is mult told =
      ap
      (λ (k : ℕ).
      provided eqb k end_kind then end_rule_at t (flatten d) o own (length above) else
      provided eqb k section_kind then section_rule_at (flatten d) o own mult else 0)
      (kind_of_lem d s)
      ∙ by_cases _ (eqb s.kind end_kind)
      (λ (e : eqb s.kind end_kind ≡ true). if_true _ _ e ∙ end_is (eqb-true _ _ e) ∙ sym (if_true _ _ e))
      (λ (e : eqb s.kind end_kind ≡ false).
      if_false _ _ e
      ∙ by_cases _ (eqb s.kind section_kind)
      (λ (f : eqb s.kind section_kind ≡ true).
      if_true _ _ f ∙ section_is (eqb-true _ _ f) mult (told (eqb-true _ _ f)) ∙ sym (if_true _ _ f))
      (λ (f : eqb s.kind section_kind ≡ false). if_false _ _ f ∙ sym (if_false _ _ f))
      ∙ sym (if_false _ _ e))
