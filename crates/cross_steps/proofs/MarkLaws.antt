-- Laws of the marks of Sides: equal Sides on one map have the same mark, so an end whose mark is not set clashes with no marked end.
-- Assumes nothing.
use mathlib.Core.Path.{◌≡◌, refl, sym, ◌∙◌, ap}
use mathlib.Core.Bool.{Bool, true, false, not}
use mathlib.Core.List.{List, [], ◌∷◌, ◌++◌}
use Prim.Native.Nat.{ℕ, ◌+◌, ◌<◌}
use lib.ListN.{length, get_or, set, length-set}
use lib.Seq.{get_or-set_same, get_or-set_other}
use lib.Dec.{eqb}
use borrow.Author.Tests.{eq-eqb, ne_eqb, eqb-true, eqb-false, not-true}
use Rattle.base.proofs.IfLaws.{by_cases, both_first, both_second, either_left, either_rest, either_false, either_none_first, either_none_second}
use Rattle.base.proofs.RunLaws.{same_equal}
use Rattle.table_layout.specs.Codes.{end_kind}
use Rattle.table_layout.specs.declared.View.{View}
use Rattle.table_record.specs.Records.{records_of, range, no_step}
use Rattle.table_record.specs.Way.Standing.{Rooms}
use Rattle.table_record.specs.declared.StepRecord.{StepRecord}
use Rattle.table_record.proofs.RecordLaws.{steps_long}
use Rattle.table_name.specs.Name.{name_at}
use Rattle.table_name.specs.Way.Hash.{marks_many, hash_of}
use Rattle.table_name.proofs.MarkLaws.{of_inside}
use Rattle.doc.specs.Holds.{Each}
use Rattle.doc.specs.Holds.Each.{none, more}
use Rattle.doc.proofs.StandsLaws.{each_append}
use Rattle.cross_rules.specs.Rules.{any}
use Rattle.cross_rules.proofs.RisingLaws.{each_by}
use Rattle.cross_steps.specs.Way.StepWords.{side_of, clashing, meeting, meets_above}
use Rattle.cross_steps.specs.Way.Marks.{mark_of, is_marked, MarkedEnds, Below}
use Rattle.cross_steps.specs.declared.Owner.{Owner}
use Rattle.cross_steps.proofs.RangeLaws.{range_more}

-- ---- the mark of a side

pub mark_inside : (t : List ℕ) (s : StepRecord) (mark : ℕ) → mark ≡ mark_of t s → mark < marks_many
unfolding mark_of
mark_inside t s mark is = of_inside s.target (side_of t s) mark is

pub mark_told :
    (t : List ℕ) (own : StepRecord) (side : List ℕ) → side ≡ name_at t own.side own.side_size → (r : ℕ) → r ≡ hash_of own.target side →
    r ≡ mark_of t own
unfolding mark_of side_of
mark_told t own side e r is = is ∙ ap (hash_of own.target) e

-- ---- an end that is not marked

module _ (t marks : List ℕ) (stamp : ℕ) (own : StepRecord) (has : own.side_size ≡ 0 → ⊥) (bare : ℕ) (is_bare : bare ≡ hash_of own.target []) where
  pub bare_marked : get_or marks bare 0 ≡ stamp → true ≡ is_marked t marks stamp own
  unfolding is_marked
  bare_marked e = sym (either_rest _ _ (ne_eqb _ _ has) ∙ either_left _ _ (eq-eqb _ _ (ap (λ (m : ℕ). get_or marks m 0) (sym is_bare) ∙ e)))

  pub own_marked : (get_or marks bare 0 ≡ stamp → ⊥) → (mark : ℕ) → mark ≡ mark_of t own → eqb (get_or marks mark 0) stamp ≡ is_marked t marks stamp own
  unfolding is_marked
  own_marked n mark is =
      let b : get_or marks (hash_of own.target []) 0 ≡ stamp → ⊥ = rw is_bare at n in
      ap (λ (m : ℕ). eqb (get_or marks m 0) stamp) is ∙ sym (either_rest _ _ (ne_eqb _ _ has) ∙ either_rest _ _ (ne_eqb _ _ b))

abbrev Marked : List ℕ → List ℕ → ℕ → StepRecord → Type 0
Marked t marks stamp s = s.kind ≡ end_kind → get_or marks (mark_of t s) 0 ≡ stamp

module _ (t marks : List ℕ) (stamp : ℕ) (own : StepRecord) (free : is_marked t marks stamp own ≡ false) where
  has_side : eqb own.side_size 0 ≡ false
  unfolding is_marked
  has_side = either_none_first _ _ free

  no_bare : get_or marks (hash_of own.target []) 0 ≡ stamp → ⊥
  unfolding is_marked
  no_bare e = eqb-false _ _ (either_none_first _ _ (either_none_second _ _ free)) e

  no_own : get_or marks (mark_of t own) 0 ≡ stamp → ⊥
  unfolding is_marked
  no_own e = eqb-false _ _ (either_none_second _ _ (either_none_second _ _ free)) e

  module _ (other : StepRecord) (marked : Marked t marks stamp other) where
    never_met : meeting t other own ≡ true → ⊥
    unfolding meeting clashing mark_of side_of name_at
    never_met met =
        let end : other.kind ≡ end_kind = eqb-true _ _ (both_first _ _ met) in
        let on : other.target ≡ own.target = eqb-true _ _ (both_first _ _ (both_second _ _ met)) in
        by_cases ⊥ (eqb other.side_size 0)
        (λ (e : eqb other.side_size 0 ≡ true).
        let without : other.side_size ≡ 0 = eqb-true _ _ e in
        no_bare (rw (on, without) at (marked end)))
        (λ (e : eqb other.side_size 0 ≡ false).
        let sides : side_of t other ≡ side_of t own =
        same_equal _ _ (sym (either_rest _ _ e ∙ either_rest _ _ has_side) ∙ both_second _ _ (both_second _ _ met)) in
        no_own (ap (λ (m : ℕ). get_or marks m 0) (sym (λ i. hash_of (on i) (sides i))) ∙ marked end))

    none_met : meeting t other own ≡ false
    none_met =
        by_cases _ (meeting t other own) (λ (e : meeting t other own ≡ true). absurd (never_met e)) (λ (e : meeting t other own ≡ false). e)

  none_above : {above : List StepRecord} → Each (Marked t marks stamp) above → meets_above t own above ≡ false
  unfolding meets_above any
  none_above none = refl
  none_above (more {x = s} h hs) = either_false _ _ (none_met s h) (none_above hs)

-- ---- marking

pub marked_starts : (t marks : List ℕ) (stamp : ℕ) → length marks ≡ marks_many → MarkedEnds t marks stamp []
marked_starts t marks stamp long = record { whole = long; each = none }

module _ (t marks : List ℕ) (stamp : ℕ) (above : List StepRecord) (marked : MarkedEnds t marks stamp above) (own : StepRecord) where
  marked_other : (own.kind ≡ end_kind → ⊥) → MarkedEnds t marks stamp (above ++ (own ∷ []))
  marked_other n = record { whole = marked.whole; each = each_append marked.each (more (λ (e : own.kind ≡ end_kind). absurd (n e)) none) }

  inside : mark_of t own < length marks
  inside = rw marked.whole (mark_inside t own (mark_of t own) refl)

  -- a mark that holds the stamp still holds it
  still : (s : StepRecord) → Marked t marks stamp s → Marked t (set marks (mark_of t own) stamp) stamp s
  still s h end =
      by_cases _ (eqb (mark_of t s) (mark_of t own))
      (λ (e : eqb (mark_of t s) (mark_of t own) ≡ true).
      let k : mark_of t s ≡ mark_of t own = eqb-true _ _ e in
      rw k (get_or-set_same marks (mark_of t own) stamp 0 inside))
      (λ (e : eqb (mark_of t s) (mark_of t own) ≡ false). get_or-set_other marks (mark_of t own) (mark_of t s) stamp 0 (eqb-false _ _ e) ∙ h end)

  marked_end : MarkedEnds t (set marks (mark_of t own) stamp) stamp (above ++ (own ∷ []))
  marked_end =
      record {
        whole = simp length-set marked.whole;
        each =
            each_append (each_by still marked.each)
            (more (λ (e : own.kind ≡ end_kind). get_or-set_same marks (mark_of t own) stamp 0 inside) none);
      }

-- ---- a step that is judged

module _ (t table : List ℕ) (v : View) (rooms : Rooms table v) (marks : List ℕ) (o : Owner) (own : StepRecord) (above : ℕ)
    (below : Below t table v marks o own above) where
  abbrev all : List StepRecord
  all = (records_of table).steps

  one_more : range o.from (above + 1) all ≡ range o.from above all ++ (own ∷ [])
  one_more =
      range_more no_step all o.from above (rw (steps_long table v rooms) below.inside)
      ∙ ap (λ (s : StepRecord). range o.from above all ++ (s ∷ [])) (sym below.here)

  -- a step that is not an end sets no mark
  pub other_marked : (own.kind ≡ end_kind → ⊥) → MarkedEnds t marks o.stamp (range o.from (above + 1) all)
  other_marked n = rw one_more (marked_other t marks o.stamp (range o.from above all) below.marked own n)

  module _ (mark : ℕ) (is_mark : mark ≡ mark_of t own) where
    pub end_marked : MarkedEnds t (set marks mark o.stamp) o.stamp (range o.from (above + 1) all)
    end_marked = rw (is_mark, one_more) (marked_end t marks o.stamp (range o.from above all) below.marked own)

  pub none_told : (marked : Bool) → marked ≡ is_marked t marks o.stamp own → not marked ≡ true → false ≡ meets_above t own (range o.from above all)
  none_told marked is free = sym (none_above t marks o.stamp own (sym is ∙ not-true marked free) below.marked.each)
