-- Laws of records that follow each other, gone over one by one: those that are left give what all of them give.
-- Assumes nothing.
use mathlib.Core.Path.{◌≡◌, refl, sym, ◌∙◌, ap}
use mathlib.Core.Bool.{Bool, true, false}
use mathlib.Core.List.{List, [], ◌∷◌, ◌++◌}
use Prim.Native.Nat.{ℕ, suc, ◌+◌, ◌-◌, ◌≤◌, ◌<◌}
use native.Mathlib.Numerals.{add-one}
use native.Mathlib.Omega.{arith}
use lib.ListN.{length, drop, get_or, length-drop, drop_of_length-le}
use lib.Seq.{length-take-le, take-suc, drop-cons, get_or-take, get_or-drop}
use borrow.Author.Tests.{eq-eqb, ne_eqb}
use Rattle.base.proofs.IfLaws.{if_true, if_false, either_left, either_rest, not_via, not_not_via}
use Rattle.table_layout.specs.Codes.{diagonal, end_kind}
use Rattle.table_layout.specs.Layout.{steps, matrices}
use Rattle.table_layout.specs.declared.View.{View}
use Rattle.table_record.specs.Records.{records_of, range, no_step, no_matrix}
use Rattle.table_record.specs.Way.Standing.{count_of, Rooms}
use Rattle.table_record.specs.declared.StepRecord.{StepRecord}
use Rattle.table_record.specs.declared.MatrixRecord.{MatrixRecord}
use Rattle.table_record.proofs.RecordLaws.{steps_long, matrices_long}
use Rattle.cross_rules.specs.Rules.{any}
use Rattle.cross_steps.specs.Way.StepWords.{meeting, meets_above, first_target, other_in}

-- ---- the elements of a range

module _ {A : Type 0} (other : A) (xs : List A) (first many : ℕ) where
  pub range_at : (i : ℕ) → i < many → get_or (range first many xs) i other ≡ get_or xs (first + i) other
  range_at i h = get_or-take many (drop first xs) i other h ∙ get_or-drop first xs i other

  pub range_more : first + many < length xs → range first (many + 1) xs ≡ range first many xs ++ (get_or xs (first + many) other ∷ [])
  range_more h =
      let l : length (drop first xs) ≡ length xs - first = length-drop first xs in
      rw (add-one many) (take-suc (drop first xs) many other (omega arith) ∙ ap (λ (x : A). range first many xs ++ (x ∷ [])) (get_or-drop first xs many other))

  module _ (inside : first + many ≤ length xs) where
    pub range_long : length (range first many xs) ≡ many
    range_long =
        let l : length (drop first xs) ≡ length xs - first = length-drop first xs in
        length-take-le many (drop first xs) (omega arith)

    range_here : (i : ℕ) → i < many → drop i (range first many xs) ≡ get_or xs (first + i) other ∷ drop (i + 1) (range first many xs)
    range_here i h =
        let l : length (range first many xs) ≡ many = range_long in
        rw (add-one i) (drop-cons (range first many xs) i other (omega arith) ∙ ap (λ (x : A). x ∷ drop (suc i) (range first many xs)) (range_at i h))

-- ---- a loop over them

-- a loop's invariant: after i elements, the rest gives the result of all
pub record Left {A B : Type 0} (over : List A → B) (all : List A) (i : ℕ) : Type 0 where
  pub same : over (drop i all) ≡ over all

pub left_starts : {A B : Type 0} (over : List A → B) (all : List A) → Left over all 0
left_starts over all = record { same = refl }

module _ {A B : Type 0} (other : A) (over : List A → B) (xs : List A) (first many : ℕ) (inside : first + many ≤ length xs) (i : ℕ)
    (left : Left over (range first many xs) i) where
  left_ends : many ≤ i → over [] ≡ over (range first many xs)
  left_ends h =
      let l : length (range first many xs) ≡ many = range_long other xs first many inside in
      let past : length (range first many xs) ≤ i = omega arith in
      ap over (sym (drop_of_length-le (range first many xs) past)) ∙ left.same

  module _ (h : i < many) (x : A) (here : x ≡ get_or xs (first + i) other) where
    left_here : over (x ∷ drop (i + 1) (range first many xs)) ≡ over (range first many xs)
    left_here =
        ap (λ (y : A). over (y ∷ drop (i + 1) (range first many xs))) here
        ∙ ap over (sym (range_here other xs first many inside i h))
        ∙ left.same

    left_on : over (x ∷ drop (i + 1) (range first many xs)) ≡ over (drop (i + 1) (range first many xs)) → Left over (range first many xs) (i + 1)
    left_on e = record { same = sym e ∙ left_here }

-- ---- the steps of a table

module _ (table : List ℕ) (v : View) (rooms : Rooms table v) (from many : ℕ) (inside : from + many ≤ count_of v steps) where
  abbrev all : List StepRecord
  all = (records_of table).steps

  in_steps : from + many ≤ length all
  in_steps = rw (steps_long table v rooms) inside

  -- the steps above an end
  module _ (t : List ℕ) (own : StepRecord) (i : ℕ) (left : Left (meets_above t own) (range from many all) i) where
    pub meets_ends : many ≤ i → false ≡ meets_above t own (range from many all)
    unfolding meets_above any
    meets_ends h = left_ends no_step (meets_above t own) all from many in_steps i left h

    module _ (h : i < many) (x : StepRecord) (here : x ≡ get_or all (from + i) no_step) (met : Bool) (told : met ≡ meeting t x own) where
      pub meets_found : met ≡ true → true ≡ meets_above t own (range from many all)
      unfolding meets_above any
      meets_found e = sym (either_left _ _ (sym told ∙ e)) ∙ left_here no_step (meets_above t own) all from many in_steps i left h x here

      pub meets_on : met ≡ false → Left (meets_above t own) (range from many all) (i + 1)
      unfolding meets_above any
      meets_on e = left_on no_step (meets_above t own) all from many in_steps i left h x here (either_rest _ _ (sym told ∙ e))

  -- the first end of a model
  module _ (none i : ℕ) (left : Left (first_target none) (range from many all) i) where
    pub target_none : many ≤ i → none ≡ first_target none (range from many all)
    unfolding first_target
    target_none h = left_ends no_step (first_target none) all from many in_steps i left h

    module _ (h : i < many) (x : StepRecord) (here : x ≡ get_or all (from + i) no_step) where
      pub target_found : x.kind ≡ end_kind → x.target ≡ first_target none (range from many all)
      unfolding first_target
      target_found e = sym (if_true _ _ (eq-eqb _ _ e)) ∙ left_here no_step (first_target none) all from many in_steps i left h x here

      pub target_on : (x.kind ≡ end_kind → ⊥) → Left (first_target none) (range from many all) (i + 1)
      unfolding first_target
      target_on e = left_on no_step (first_target none) all from many in_steps i left h x here (if_false _ _ (ne_eqb _ _ e))

-- ---- the matrices of a section

module _ (table : List ℕ) (v : View) (rooms : Rooms table v) (from many : ℕ) (inside : from + many ≤ count_of v matrices) (i : ℕ)
    (left : Left other_in (range from many (records_of table).matrices) i) where
  abbrev forms : List MatrixRecord
  forms = (records_of table).matrices

  in_matrices : from + many ≤ length forms
  in_matrices = rw (matrices_long table v rooms) inside

  pub other_ends : many ≤ i → false ≡ other_in (range from many forms)
  unfolding other_in any
  other_ends h = left_ends no_matrix other_in forms from many in_matrices i left h

  module _ (h : i < many) (x : MatrixRecord) (here : x ≡ get_or forms (from + i) no_matrix) where
    pub other_found : (x.form ≡ diagonal → ⊥) → true ≡ other_in (range from many forms)
    unfolding other_in any
    other_found e = sym (either_left _ _ (not_via (ne_eqb _ _ e))) ∙ left_here no_matrix other_in forms from many in_matrices i left h x here

    pub other_on : x.form ≡ diagonal → Left other_in (range from many forms) (i + 1)
    unfolding other_in any
    other_on e = left_on no_matrix other_in forms from many in_matrices i left h x here (either_rest _ _ (not_not_via (eq-eqb _ _ e)))
