-- Laws of marked names: a name whose mark is not set differs from every name above it.
-- Assumes nothing.
use mathlib.Core.Path.{◌≡◌, refl, sym, ◌∙◌, ap}
use mathlib.Core.Bool.{true, false, not}
use mathlib.Core.List.{List}
use Prim.Native.Nat.{ℕ, zero, suc, ◌+◌, ◌*◌, ◌<◌, zero-le, suc-le-suc}
use native.Mathlib.Nat.{not-suc-le-zero, mul-suc}
use native.Mathlib.Omega.{arith}
use lib.ListN.{length, get_or, set, length-set}
use lib.Seq.{get_or-set_same, get_or-set_other}
use lib.Dec.{eqb}
use borrow.Author.Tests.{eqb-true, eqb-false, not-true}
use Rattle.base.specs.Runs.{same}
use Rattle.base.proofs.IfLaws.{by_cases, either_false}
use Rattle.base.proofs.RunLaws.{same_equal}
use Rattle.table_record.specs.Way.Standing.{places, name_record_at}
use Rattle.table_record.specs.declared.NameRecord.{NameRecord}
use Rattle.table_name.specs.Name.{name_at}
use Rattle.table_name.specs.Way.Hash.{marks_many, hash_of}
use Rattle.table_name.proofs.MarkLaws.{of_inside}
use Rattle.cross_rules.specs.Rules.{any}
use Rattle.cross_rules.specs.Way.Repeated.{own_name, own_mark, is_repeated, MarkedNames}

module _ (t table marks name : List ℕ) (stamp width : ℕ) (free : get_or marks (hash_of 0 name) 0 ≡ stamp → ⊥) where
  other_name : (at : ℕ) → get_or marks (own_mark t table at) 0 ≡ stamp → same name (own_name t table at) ≡ false
  unfolding own_mark
  other_name at marked =
      by_cases (same name (own_name t table at) ≡ false) (same name (own_name t table at))
      (λ (e : same name (own_name t table at) ≡ true).
      absurd (free (ap (λ (n : List ℕ). get_or marks (hash_of 0 n) 0) (same_equal name (own_name t table at) e) ∙ marked)))
      (λ (e : same name (own_name t table at) ≡ false). e)

  none_above :
      (base n : ℕ) → ((j : ℕ) → j < n → get_or marks (own_mark t table (base + width * j)) 0 ≡ stamp) →
      any (λ (at : ℕ). same name (own_name t table at)) (places width base n) ≡ false
  unfolding any places
  none_above base zero each = refl
  none_above base (suc n) each =
      let z : base + width * 0 ≡ base = omega arith in
      either_false _ _ (other_name base (rw z at (each 0 (suc-le-suc zero-le))))
      (none_above (base + width) n
      (λ (j : ℕ) (h : j < n).
      let m : width * suc j ≡ width * j + width = mul-suc width j in
      let k : base + width * suc j ≡ base + width + width * j = omega arith in
      rw k at (each (suc j) (suc-le-suc h))))

pub marked_none : (t table marks : List ℕ) (stamp base width : ℕ) → length marks ≡ marks_many → MarkedNames t table marks stamp base width 0
marked_none t table marks stamp base width long = record { whole = long; each = λ (j : ℕ) (h : j < 0). absurd (not-suc-le-zero h) }

-- ---- one record more is marked

module _ (t table marks : List ℕ) (stamp base width index : ℕ) (marked : MarkedNames t table marks stamp base width index) where
  own_inside : (mark : ℕ) → mark ≡ own_mark t table (base + width * index) → mark < length marks
  unfolding own_mark
  own_inside mark is = rw marked.whole (of_inside 0 (own_name t table (base + width * index)) mark is)

  next_marked : (mark : ℕ) → mark ≡ own_mark t table (base + width * index) → MarkedNames t table (set marks mark stamp) stamp base width (index + 1)
  next_marked mark is =
      record {
        whole = simp length-set marked.whole;
        each =
            λ (j : ℕ) (h : j < index + 1).
            by_cases _ (eqb (own_mark t table (base + width * j)) mark)
            (λ (e : eqb (own_mark t table (base + width * j)) mark ≡ true).
            ap (λ (m : ℕ). get_or (set marks mark stamp) m 0) (eqb-true (own_mark t table (base + width * j)) mark e) ∙ get_or-set_same marks mark stamp 0 (own_inside mark is))
            (λ (e : eqb (own_mark t table (base + width * j)) mark ≡ false).
            let d : j ≡ index → ⊥ = λ (k : j ≡ index). eqb-false _ _ e (ap (λ (i : ℕ). own_mark t table (base + width * i)) k ∙ sym is) in
            get_or-set_other marks mark (own_mark t table (base + width * j)) stamp 0 (eqb-false _ _ e) ∙ marked.each j (omega arith));
      }

  -- the name and the mark that the code has computed
  module _ (own : NameRecord) (here : own ≡ name_record_at table (base + width * index)) (name : List ℕ) (is_name : name ≡ name_at t own.start own.size)
      (mark : ℕ) (is_mark : mark ≡ hash_of 0 name) where
    mark_told : mark ≡ own_mark t table (base + width * index)
    unfolding own_mark own_name
    mark_told = is_mark ∙ ap (hash_of 0) (is_name ∙ ap (λ (r : NameRecord). name_at t r.start r.size) here)

    pub marked_on : MarkedNames t table (set marks mark stamp) stamp base width (index + 1)
    marked_on = next_marked mark mark_told

    pub none_told : not (eqb (get_or marks mark 0) stamp) ≡ true → false ≡ is_repeated t table base width index
    unfolding is_repeated own_mark
    none_told free =
        let n : get_or marks (hash_of 0 (own_name t table (base + width * index))) 0 ≡ stamp → ⊥ =
        λ (k : get_or marks (hash_of 0 (own_name t table (base + width * index))) 0 ≡ stamp).
        eqb-false _ _ (not-true _ free) (ap (λ (m : ℕ). get_or marks m 0) mark_told ∙ k) in
        sym (none_above t table marks (own_name t table (base + width * index)) stamp width n base index marked.each)
