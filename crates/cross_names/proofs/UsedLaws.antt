-- Laws of the loop over the steps: the flags set so far and the steps that are left give the flags of all steps.
-- Assumes nothing.
use mathlib.Core.Path.{◌≡◌, refl, sym, ◌∙◌, ap}
use mathlib.Core.Bool.{Bool, true, false, not}
use mathlib.Core.List.{List, [], ◌∷◌}
use Prim.Native.Nat.{ℕ, ◌+◌, ◌≤◌, ◌<◌}
use native.Mathlib.Numerals.{add-one}
use native.Mathlib.Omega.{arith}
use lib.ListN.{length, get_or, set, drop, replicate, length-set, get_or-replicate, drop_of_length-le}
use lib.Seq.{get_or-set_same, get_or-set_other, drop-cons}
use lib.Dec.{leb, eqb}
use borrow.Author.Tests.{ne_eqb, eqb-true, eqb-false, leb-true, leb-false}
use Rattle.base.specs.If.{provided◌then◌else◌, either}
use Rattle.base.proofs.IfLaws.{if_true, if_false, by_test, by_cases, both_rest, both_not_left, either_left, either_rest, either_comes}
use Rattle.table_layout.specs.Codes.{section_kind}
use Rattle.table_layout.specs.Layout.{steps}
use Rattle.table_layout.specs.declared.View.{View}
use Rattle.table_record.specs.Records.{records_of, no_step}
use Rattle.table_record.specs.Way.Standing.{count_of, Rooms}
use Rattle.table_record.specs.declared.StepRecord.{StepRecord}
use Rattle.table_record.proofs.RecordLaws.{steps_long}
use Rattle.cross_rules.specs.Rules.{any}
use Rattle.cross_names.specs.Way.Used.{points_at, used_in, no_slot, Flags, slot_of}

far : (i target : ℕ) → i < no_slot → eqb target i ≡ eqb (provided leb no_slot target then no_slot else target) i
far i target h =
    by_cases _ (leb no_slot target)
    (λ (e : leb no_slot target ≡ true).
    let k : no_slot ≤ target = leb-true _ _ e in
    ne_eqb target i (λ (z : target ≡ i). omega arith) ∙ sym (ne_eqb no_slot i (λ (z : no_slot ≡ i). omega arith)) ∙ ap (λ (x : ℕ). eqb x i) (sym (if_true {A = ℕ} no_slot target e)))
    (λ (e : leb no_slot target ≡ false). ap (λ (x : ℕ). eqb x i) (sym (if_false {A = ℕ} no_slot target e)))

module _ (s : StepRecord) where
  -- a step sets the flag of its section
  slot_points : (i : ℕ) → i < no_slot → points_at i s ≡ eqb (slot_of s) i
  unfolding points_at slot_of
  slot_points i h =
      by_cases _ (eqb s.kind section_kind)
      (λ (k : eqb s.kind section_kind ≡ true).
      both_rest _ _ k ∙ far i s.target h
      ∙ ap (λ (x : ℕ). eqb x i) (sym (if_false {A = ℕ} no_slot (provided leb no_slot s.target then no_slot else s.target) (ap not k))))
      (λ (k : eqb s.kind section_kind ≡ false).
      both_not_left _ _ k ∙ sym (ne_eqb no_slot i (λ (z : no_slot ≡ i). omega arith))
      ∙ ap (λ (x : ℕ). eqb x i) (sym (if_true {A = ℕ} no_slot (provided leb no_slot s.target then no_slot else s.target) (ap not k))))

  slot_small : slot_of s ≤ no_slot
  unfolding slot_of
  slot_small =
      by_test (λ (x : ℕ). x ≤ no_slot) (not (eqb s.kind section_kind)) no_slot (provided leb no_slot s.target then no_slot else s.target) (λ e. omega arith)
      (λ e.
      by_test (λ (x : ℕ). x ≤ no_slot) (leb no_slot s.target) no_slot s.target (λ f. omega arith)
      (λ (f : leb no_slot s.target ≡ false). omega (arith, leb-false no_slot s.target f)))

  pub slot_in : (slot : ℕ) → slot ≡ slot_of s → slot < no_slot + 1
  slot_in slot e = omega (arith, slot_small)

-- the loop's invariant: the flags set so far, with the steps that are left, give the flags of all steps
pub record Raised (all : List StepRecord) (used : List Bool) (i : ℕ) : Type 0 where
  pub long : length used ≡ no_slot + 1
  pub told : (n : ℕ) → n < no_slot → either (get_or used n false) (used_in n (drop i all)) ≡ used_in n all

pub raised_start : (all : List StepRecord) → Raised all (replicate (no_slot + 1) false) 0
raised_start all =
    record { long = refl; told = λ (n : ℕ) (h : n < no_slot). either_rest _ _ (get_or-replicate (no_slot + 1) n false false (omega arith)) }

none_used : (n : ℕ) → used_in n [] ≡ false
unfolding used_in any
none_used n = refl

step_here : (n : ℕ) (s : StepRecord) (rest : List StepRecord) → used_in n (s ∷ rest) ≡ either (points_at n s) (used_in n rest)
unfolding used_in any
step_here n s rest = refl

either_swap : (a b c : Bool) → either (either b a) c ≡ either a (either b c)
unfolding either
either_swap true true c = refl
either_swap true false c = refl
either_swap false true c = refl
either_swap false false c = refl

-- one flag more
flag_more : (used : List Bool) (slot n : ℕ) → slot < length used → get_or (set used slot true) n false ≡ either (eqb slot n) (get_or used n false)
flag_more used slot n h =
    by_cases _ (eqb slot n)
    (λ (e : eqb slot n ≡ true). ap (λ (k : ℕ). get_or (set used slot true) k false) (sym (eqb-true _ _ e)) ∙ get_or-set_same used slot true false h ∙ sym (either_left _ _ e))
    (λ (e : eqb slot n ≡ false). get_or-set_other used slot n true false (λ (z : n ≡ slot). eqb-false _ _ e (sym z)) ∙ sym (either_rest _ _ e))

module _ (table : List ℕ) (v : View) (rooms : Rooms table v) (used : List Bool) (i : ℕ) (r : Raised (records_of table).steps used i) where
  abbrev all : List StepRecord
  all = (records_of table).steps

  pub raised_done : count_of v steps ≤ i → Flags used all
  raised_done h =
      let l : length all ≡ count_of v steps = steps_long table v rooms in
      let past : length all ≤ i = omega arith in
      record {
        long = r.long;
        told =
            λ (n : ℕ) (k : n < no_slot).
            let none : used_in n (drop i all) ≡ false = ap (used_in n) (drop_of_length-le all past) ∙ none_used n in
            sym (either_comes _ _ none) ∙ r.told n k;
      }

  pub raised_on : i < count_of v steps → (s : StepRecord) → s ≡ get_or all i no_step → (slot : ℕ) → slot ≡ slot_of s → Raised all (set used slot true) (i + 1)
  raised_on h s here slot e = record { long = length-set used slot true ∙ r.long; told = λ (n : ℕ) (k : n < no_slot). told_on n k }
    where
      rest_here : drop i all ≡ s ∷ drop (i + 1) all
      rest_here =
          let l : length all ≡ count_of v steps = steps_long table v rooms in
          rw (add-one i, here) (drop-cons all i no_step (omega arith))

      told_on : (n : ℕ) → n < no_slot → either (get_or (set used slot true) n false) (used_in n (drop (i + 1) all)) ≡ used_in n all
      told_on n k =
          let f : get_or (set used slot true) n false ≡ either (eqb slot n) (get_or used n false) = flag_more used slot n (omega (arith, r.long, slot_in s slot e)) in
          let p : points_at n s ≡ eqb slot n = slot_points s n k ∙ ap (λ (x : ℕ). eqb x n) (sym e) in
          let u : used_in n (drop i all) ≡ either (eqb slot n) (used_in n (drop (i + 1) all)) =
          ap (used_in n) rest_here ∙ step_here n s (drop (i + 1) all) ∙ ap (λ (b : Bool). either b (used_in n (drop (i + 1) all))) p in
          ap (λ (b : Bool). either b (used_in n (drop (i + 1) all))) f
          ∙ either_swap (get_or used n false) (eqb slot n) _
          ∙ ap (either (get_or used n false)) (sym u)
          ∙ r.told n k
