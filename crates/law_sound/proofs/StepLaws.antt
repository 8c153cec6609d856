-- The records of the steps are sound: targets inside, amounts that fit the method, sides in the text.
-- Assumes nothing.
use mathlib.Core.Path.{◌≡◌, refl, sym, ◌∙◌, ap}
use mathlib.Core.Bool.{Bool, true, false}
use mathlib.Core.List.{List, [], ◌∷◌, map}
use mathlib.Core.Logic.{◌⊎◌, inl, inr}
use Prim.Native.Nat.{ℕ, zero, suc, ◌+◌, ◌≤◌, ◌<◌}
use native.Mathlib.Omega.{arith}
use lib.ListN.{length, get_or, length-map}
use lib.Dec.{eqb}
use borrow.Author.Tests.{eq-eqb, ne_eqb, eqb-true, eqb-false, lt-ltb}
use Rattle.table_record.specs.declared.StepRecord.{StepRecord}
use Rattle.table_layout.specs.Codes.{end_kind, section_kind}
use Rattle.base.proofs.IfLaws.{if_true, if_false, by_test, by_cases, both_true, either_left, either_right}
use Rattle.lex_line.specs.Words.{Word}
use Rattle.doc.specs.Lines.{no_word}
use Rattle.doc.specs.Document.{Step, Model, Section, Document}
use Rattle.doc.specs.Records.{target_of, step_record, step_records, map_records, section_record, section_records}
use Rattle.doc.specs.Holds.{Each}
use Rattle.doc.specs.Way.Holds.{IsName}
use Rattle.doc.specs.Holds.Each.{none, more}
use Rattle.doc.proofs.NamedLaws.{StepNamed, ModelNamed}
use Rattle.doc.proofs.SectionLaws.{RightSection}
use Rattle.cross_rules.specs.Rules.{method_at, map_index, section_index, is_wrong_method}
use Rattle.cross_rules.specs.Way.Findings.{step_rule}
use Rattle.ask_sound.specs.Tests.{has_no_side, is_side, amount_fits}
use Rattle.ask_sound.specs.Sound.{every, is_end, is_section_step, is_fork_step, is_step, methods_of}
use Rattle.law_sound.proofs.EveryLaws.{every_none, every_more, every_append}
use Rattle.law_sound.proofs.Bounds.{RightStep}
use Rattle.law_sound.proofs.PartLaws.{name_is}
use Rattle.law_sound.proofs.CrossLaws.{end_found, section_found, method_right}
use Rattle.doc.proofs.CountLaws.{maps_long}

-- ---- the targets of steps

methods_same : (first : ℕ) (ss : List Section) → methods_of (section_records first ss) ≡ map (λ (s : Section). s.method) ss
unfolding methods_of section_records section_record
methods_same first [] = refl
methods_same first (s ∷ ss) = ap (λ (ns : List ℕ). s.method ∷ ns) (methods_same (first + length s.matrices) ss)

methods_long : (ss : List Section) → length (methods_of (section_records 0 ss)) ≡ length ss
methods_long ss = ap length (methods_same 0 ss) ∙ length-map ss (λ (s : Section). s.method)

method_at_lem : (ss : List Section) (i : ℕ) → get_or (map (λ (s : Section). s.method) ss) i 0 ≡ method_at ss i
unfolding method_at
method_at_lem [] i = refl
method_at_lem (s ∷ ss) zero = refl
method_at_lem (s ∷ ss) (suc i) = method_at_lem ss i

method_told : (ss : List Section) (i : ℕ) → get_or (methods_of (section_records 0 ss)) i 0 ≡ method_at ss i
method_told ss i = ap (λ (ns : List ℕ). get_or ns i 0) (methods_same 0 ss) ∙ method_at_lem ss i

method_few : {ss : List Section} → Each RightSection ss → (i : ℕ) → method_at ss i ≤ 1
unfolding method_at
method_few none i = omega arith
method_few (more h hs) zero = h.method
method_few (more h hs) (suc i) = method_few hs i

-- ---- sides

no_side : has_no_side no_word.start (length no_word.text) ≡ true
unfolding has_no_side no_word
no_side = both_true _ _ refl refl

side_none : (w : Word) → w ≡ no_word → has_no_side w.start (length w.text) ≡ true
side_none w e = ap (λ (x : Word). has_no_side x.start (length x.text)) e ∙ no_side

side_is : (t : List ℕ) (w : Word) → (w ≡ no_word) ⊎ IsName t w → is_side (length t) w.start (length w.text) ≡ true
unfolding is_side
side_is t w (inl e) = either_left _ _ (side_none w e)
side_is t w (inr n) = either_right _ _ (name_is t w n)

-- by its kind
kind_told :
    (bytes maps : ℕ) (methods : List ℕ) (r : StepRecord) → r.kind < 4 → (r.kind ≡ end_kind → is_end bytes maps r ≡ true) →
    (r.kind ≡ section_kind → is_section_step methods r ≡ true) →
    (eqb r.kind end_kind ≡ false → eqb r.kind section_kind ≡ false → is_fork_step r ≡ true) → is_step bytes maps methods r ≡ true
unfolding is_step
kind_told bytes maps methods r few x y z =
    by_test (λ (b : Bool). b ≡ true) (eqb r.kind end_kind) _ _ (λ (e : eqb r.kind end_kind ≡ true). x (eqb-true _ _ e))
    (λ (e : eqb r.kind end_kind ≡ false).
    by_test (λ (b : Bool). b ≡ true) (eqb r.kind section_kind) _ _ (λ (f : eqb r.kind section_kind ≡ true). y (eqb-true _ _ f))
    (λ (f : eqb r.kind section_kind ≡ false). both_true _ _ (lt-ltb _ _ few) (z e f)))

-- ---- one step

module _ (t : List ℕ) (d : Document) (sections : Each RightSection d.sections) (m : Model) (s : Step) where
  abbrev record_of : StepRecord
  record_of = step_record d.maps d.sections s

  record_kind : record_of.kind ≡ s.kind
  unfolding step_record
  record_kind = refl

  end_target : s.kind ≡ end_kind → target_of d.maps d.sections s ≡ map_index d s
  unfolding target_of
  end_target k = if_true _ _ (eq-eqb _ _ k)

  section_target : s.kind ≡ section_kind → target_of d.maps d.sections s ≡ section_index d s
  unfolding target_of
  section_target k =
      let n : eqb s.kind end_kind ≡ false = ne_eqb _ _ (λ (z : s.kind ≡ end_kind). omega arith) in
      if_false _ _ n ∙ if_true _ _ (eq-eqb _ _ k)

  other_target : eqb s.kind end_kind ≡ false → eqb s.kind section_kind ≡ false → target_of d.maps d.sections s ≡ 0
  unfolding target_of
  other_target n o = if_false _ _ n ∙ if_false _ _ o

  -- "24 METHOD: Mult with Distributed, Len with Lumped"
  amount_fits_lem : s.kind ≡ section_kind → RightStep s → is_wrong_method d s ≡ false →
      amount_fits (method_at d.sections (section_index d s)) s.amount ≡ true
  unfolding is_wrong_method amount_fits
  amount_fits_lem k r h =
      let few : method_at d.sections (section_index d s) ≤ 1 = method_few sections (section_index d s) in
      by_cases (amount_fits (method_at d.sections (section_index d s)) s.amount ≡ true) s.mult
      (λ (b : s.mult ≡ true).
      let n : method_at d.sections (section_index d s) ≡ 1 → ⊥ = eqb-false _ _ (sym (if_true _ _ b) ∙ h) in
      let z : method_at d.sections (section_index d s) ≡ 0 = omega arith in
      if_true _ _ (eq-eqb _ _ z) ∙ r.mult k b)
      (λ (b : s.mult ≡ false). if_false _ _ (sym (if_false _ _ b) ∙ h) ∙ r.long k b)

  module _ (r : RightStep s) (n : StepNamed t s) (kept : step_rule d m s ≡ 0) where
    end_is : s.kind ≡ end_kind → is_end (length t) (length (map_records 0 d.maps)) record_of ≡ true
    unfolding is_end step_record
    end_is k =
        let i : map_index d s < length d.maps = end_found d m s kept k in
        let e : target_of d.maps d.sections s ≡ map_index d s = end_target k in
        let l : length (map_records 0 d.maps) ≡ length d.maps = maps_long 0 d.maps in
        let j : target_of d.maps d.sections s < length (map_records 0 d.maps) = omega arith in
        both_true _ _ (lt-ltb _ _ j)
        (both_true _ _ (eq-eqb _ _ (r.amountless (λ (z : s.kind ≡ section_kind). omega arith))) (side_is t s.side n.side))

    section_is : s.kind ≡ section_kind → is_section_step (methods_of (section_records 0 d.sections)) record_of ≡ true
    unfolding is_section_step step_record
    section_is k =
        let i : section_index d s < length d.sections = section_found d m s kept k in
        let e : target_of d.maps d.sections s ≡ section_index d s = section_target k in
        let l : length (methods_of (section_records 0 d.sections)) ≡ length d.sections = methods_long d.sections in
        let j : target_of d.maps d.sections s < length (methods_of (section_records 0 d.sections)) = omega arith in
        let method : get_or (methods_of (section_records 0 d.sections)) (target_of d.maps d.sections s) 0 ≡ method_at d.sections (section_index d s) =
        ap (λ (x : ℕ). get_or (methods_of (section_records 0 d.sections)) x 0) e ∙ method_told d.sections (section_index d s) in
        both_true _ _ (lt-ltb _ _ j)
        (both_true _ _ (ap (λ (x : ℕ). amount_fits x s.amount) method ∙ amount_fits_lem k r (method_right d m s kept k))
        (side_none s.side (r.sideless (λ (z : s.kind ≡ end_kind). omega arith))))

    fork_is : eqb s.kind end_kind ≡ false → eqb s.kind section_kind ≡ false → is_fork_step record_of ≡ true
    unfolding is_fork_step step_record
    fork_is a b =
        both_true _ _ (eq-eqb _ _ (other_target a b))
        (both_true _ _ (eq-eqb _ _ (r.amountless (eqb-false _ _ b))) (side_none s.side (r.sideless (eqb-false _ _ a))))

    pub step_is : is_step (length t) (length (map_records 0 d.maps)) (methods_of (section_records 0 d.sections)) record_of ≡ true
    step_is = kind_told (length t) (length (map_records 0 d.maps)) (methods_of (section_records 0 d.sections)) record_of (rw record_kind r.kind) (λ (k : record_of.kind ≡ end_kind). end_is (sym record_kind ∙ k)) (λ (k : record_of.kind ≡ section_kind). section_is (sym record_kind ∙ k)) (λ (a : eqb record_of.kind end_kind ≡ false) (b : eqb record_of.kind section_kind ≡ false). fork_is (rw record_kind at a) (rw record_kind at b))

-- ---- all of them

module _ (t : List ℕ) (d : Document) (sections : Each RightSection d.sections) where
  abbrev Passes : StepRecord → Bool
  Passes = is_step (length t) (length (map_records 0 d.maps)) (methods_of (section_records 0 d.sections))

  model_steps :
      (m : Model) {ss : List Step} → Each RightStep ss → Each (StepNamed t) ss → Each (λ (s : Step). step_rule d m s ≡ 0) ss →
      every Passes (map (step_record d.maps d.sections) ss) ≡ true
  model_steps m none none none = every_none Passes
  model_steps m (more {x = s} {xs = ss} r rs) (more n ns) (more k ks) =
      every_more Passes _ _ (step_is t d sections m s r n k) (model_steps m rs ns ks)

  pub steps_sound :
      {ms : List Model} → Each (λ (m : Model). Each RightStep m.steps) ms → Each (ModelNamed t) ms →
      Each (λ (m : Model). Each (λ (s : Step). step_rule d m s ≡ 0) m.steps) ms →
      every (is_step (length t) (length (map_records 0 d.maps)) (methods_of (section_records 0 d.sections)))
      (step_records d.maps d.sections ms) ≡ true
  unfolding step_records
  steps_sound none none none = every_none _
  steps_sound (more {x = m} {xs = ms} r rs) (more n ns) (more k ks) =
      every_append _ (map (step_record d.maps d.sections) m.steps) (step_records d.maps d.sections ms)
      (model_steps m r n.steps k) (steps_sound rs ns ks)
