-- Laws of the section that has a matrix, and of the values of a matrix.
-- Assumes nothing.
use mathlib.Core.Path.{◌≡◌, sym, ◌∙◌, ap}
use mathlib.Core.Bool.{true, false}
use Prim.Native.Nat.{ℕ, suc, ◌+◌, ◌-◌, ◌≤◌, ◌<◌}
use native.Mathlib.Nat.{sub-zero}
use native.Mathlib.Omega.{arith}
use lib.ListN.{length, get_or}
use lib.Dec.{eqb}
use borrow.Author.Tests.{eq-eqb, ne_eqb, eqb-true, eqb-false, lt-ltb, le-ltb}
use Rattle.base.proofs.IfLaws.{if_true, if_false, by_cases}
use Rattle.table_layout.specs.Codes.{matrix_kinds}
use Rattle.table_record.specs.declared.SectionRecord.{SectionRecord}
use Rattle.table_record.specs.Records.{Records, no_section}
use Rattle.out_listing.specs.Shown.{kind_in, owner_from, owner_of}

-- a word that is the index of a matrix plus 1
module _ (word matrix : ℕ) where
  pub matrix_is : (word ≡ 0 → ⊥) → eqb (word - 1) matrix ≡ eqb word (matrix + 1)
  matrix_is f =
      by_cases _ (eqb (word - 1) matrix)
      (λ (e : eqb (word - 1) matrix ≡ true). e ∙ sym (eq-eqb word (matrix + 1) (same (eqb-true (word - 1) matrix e))))
      (λ (e : eqb (word - 1) matrix ≡ false). e ∙ sym (ne_eqb word (matrix + 1) (λ (k : word ≡ matrix + 1). eqb-false (word - 1) matrix e (back k))))
    where
      same : word - 1 ≡ matrix → word ≡ matrix + 1
      same k = omega arith

      back : word ≡ matrix + 1 → word - 1 ≡ matrix
      back k = omega arith

module _ (r : Records) (matrix count i : ℕ) where
  pub owner_starts : count ≡ length r.sections → owner_from r matrix (count - 0) 0 ≡ owner_of r matrix
  unfolding owner_of
  owner_starts e = ap (λ (n : ℕ). owner_from r matrix n 0) (sub-zero count ∙ e)

  module _ (left : owner_from r matrix (count - i) i ≡ owner_of r matrix) where
    pub owner_none : count ≤ i → i ≤ count → count ≡ owner_of r matrix
    unfolding owner_from
    owner_none h k =
        let e : 0 ≡ count - i = omega arith in
        let f : count ≡ i = omega arith in
        f ∙ ap (λ (n : ℕ). owner_from r matrix n i) e ∙ left

    module _ (h : i < count) (s : SectionRecord) (here : s ≡ get_or r.sections i no_section) (kind : ℕ) (told : kind ≡ kind_in matrix s) where
      next : owner_from r matrix (suc (count - (i + 1))) i ≡ owner_of r matrix
      next =
          let e : suc (count - (i + 1)) ≡ count - i = omega arith in
          ap (λ (n : ℕ). owner_from r matrix n i) e ∙ left

      kind_is : kind ≡ kind_in matrix (get_or r.sections i no_section)
      kind_is = told ∙ ap (kind_in matrix) here

      pub owner_found : kind < matrix_kinds → i ≡ owner_of r matrix
      unfolding owner_from
      owner_found k = sym (if_true _ _ (lt-ltb _ matrix_kinds (rw kind_is at k))) ∙ next

      pub owner_on : matrix_kinds ≤ kind → owner_from r matrix (count - (i + 1)) (i + 1) ≡ owner_of r matrix
      unfolding owner_from
      owner_on k = sym (if_false _ _ (le-ltb _ matrix_kinds (rw kind_is at k))) ∙ next
