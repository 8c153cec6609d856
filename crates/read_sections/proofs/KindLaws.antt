-- Laws of the kinds of matrices that a section has, of which the first of each counts, and of its conductors.
-- Assumes nothing.
use mathlib.Core.Path.{◌≡◌, refl, sym, ◌∙◌, ap}
use mathlib.Core.Bool.{true, false}
use mathlib.Core.List.{List, ◌∷◌}
use Prim.Native.Nat.{ℕ, ◌+◌, ◌<◌}
use native.Mathlib.Omega.{arith}
use lib.ListN.{length, get_or, set, replicate, length-set, get_or-replicate}
use lib.Seq.{get_or-set_same, get_or-set_other}
use lib.Dec.{eqb}
use borrow.Author.Tests.{eq-eqb, ne_eqb, eqb-true, eqb-false}
use Rattle.base.proofs.IfLaws.{if_true, if_false, by_test, by_cases}
use Rattle.lex_keyword.specs.Names.{resistance_matrix, inductance_matrix, conductance_matrix}
use Rattle.table_layout.specs.Codes.{matrix_kinds}
use Rattle.doc.specs.Document.{Matrix, kind_of}
use Rattle.doc.specs.Records.{index_of_kind}
use Rattle.read_sections.specs.Way.Open.{kinds_with, kept_or}

pub kind_small : (key : ℕ) → kind_of key < matrix_kinds
unfolding kind_of
kind_small key =
    by_test (λ (n : ℕ). n < matrix_kinds) (eqb key resistance_matrix) _ _ (λ (e : eqb key resistance_matrix ≡ true). omega arith)
    (λ (e : eqb key resistance_matrix ≡ false).
    by_test (λ (n : ℕ). n < matrix_kinds) (eqb key inductance_matrix) _ _ (λ (f : eqb key inductance_matrix ≡ true). omega arith)
    (λ (f : eqb key inductance_matrix ≡ false).
    by_test (λ (n : ℕ). n < matrix_kinds) (eqb key conductance_matrix) _ _ (λ (g : eqb key conductance_matrix ≡ true). omega arith)
    (λ (g : eqb key conductance_matrix ≡ false). omega arith)))

module _ (kinds : List ℕ) (kind index : ℕ) where
  pub kind_new : get_or kinds kind 0 ≡ 0 → set kinds kind index ≡ kinds_with kinds kind index
  unfolding kinds_with
  kind_new h = sym (if_true _ _ (eq-eqb _ _ h))

  pub kind_kept : (get_or kinds kind 0 ≡ 0 → ⊥) → kinds ≡ kinds_with kinds kind index
  unfolding kinds_with
  kind_kept h = sym (if_false _ _ (ne_eqb _ _ h))

  pub kinds_long : length (kinds_with kinds kind index) ≡ length kinds
  unfolding kinds_with
  kinds_long =
      by_test (λ (l : List ℕ). length l ≡ length kinds) (eqb (get_or kinds kind 0) 0) _ _
      (λ (e : eqb (get_or kinds kind 0) 0 ≡ true). length-set kinds kind index) (λ (e : eqb (get_or kinds kind 0) 0 ≡ false). refl)

  other_kind : (k : ℕ) → (kind ≡ k → ⊥) → get_or (kinds_with kinds kind index) k 0 ≡ get_or kinds k 0
  unfolding kinds_with
  other_kind k h =
      by_test (λ (l : List ℕ). get_or l k 0 ≡ get_or kinds k 0) (eqb (get_or kinds kind 0) 0) _ _
      (λ (e : eqb (get_or kinds kind 0) 0 ≡ true). get_or-set_other kinds kind k index 0 (λ (s : k ≡ kind). h (sym s)))
      (λ (e : eqb (get_or kinds kind 0) 0 ≡ false). refl)

  -- the first of its kind counts, whatever comes after it
  same_kind : kind < length kinds → 0 < index → (rest : ℕ) →
      kept_or (get_or (kinds_with kinds kind index) kind 0) rest ≡ kept_or (get_or kinds kind 0) index
  unfolding kept_or
  same_kind h some rest =
      by_cases _ (eqb (get_or kinds kind 0) 0)
      (λ (e : eqb (get_or kinds kind 0) 0 ≡ true).
      let g : get_or (kinds_with kinds kind index) kind 0 ≡ index =
      ap (λ (l : List ℕ). get_or l kind 0) (sym (kind_new (eqb-true _ _ e))) ∙ get_or-set_same kinds kind index 0 h in
      rw g (if_false _ _ (ne_eqb index 0 (λ (z : index ≡ 0). omega arith)) ∙ sym (if_true _ _ e)))
      (λ (e : eqb (get_or kinds kind 0) 0 ≡ false).
      let g : get_or (kinds_with kinds kind index) kind 0 ≡ get_or kinds kind 0 =
      ap (λ (l : List ℕ). get_or l kind 0) (sym (kind_kept (eqb-false _ _ e))) in
      rw g (if_false _ _ e ∙ sym (if_false _ _ e)))

-- one matrix more: the kinds so far, and what the matrices after it give
pub kinds_more :
    (kinds : List ℕ) (m : Matrix) (ms : List Matrix) (first : ℕ) → m.kind < length kinds → (k : ℕ) →
    kept_or (get_or (kinds_with kinds m.kind (first + 1)) k 0) (index_of_kind k (first + 1) ms)
    ≡ kept_or (get_or kinds k 0) (index_of_kind k first (m ∷ ms))
unfolding index_of_kind
kinds_more kinds m ms first h k =
    by_cases _ (eqb m.kind k)
    (λ (e : eqb m.kind k ≡ true).
    let s : m.kind ≡ k = eqb-true _ _ e in
    ap (λ (n : ℕ). kept_or (get_or (kinds_with kinds m.kind (first + 1)) n 0) (index_of_kind k (first + 1) ms)) (sym s)
    ∙ same_kind kinds m.kind (first + 1) h (omega arith) (index_of_kind k (first + 1) ms)
    ∙ ap (λ (n : ℕ). kept_or (get_or kinds n 0) (first + 1)) s
    ∙ ap (kept_or (get_or kinds k 0)) (sym (if_true (first + 1) (index_of_kind k (first + 1) ms) e)))
    (λ (e : eqb m.kind k ≡ false).
    ap (λ (n : ℕ). kept_or n (index_of_kind k (first + 1) ms)) (other_kind kinds m.kind (first + 1) k (eqb-false _ _ e))
    ∙ ap (kept_or (get_or kinds k 0)) (sym (if_false (first + 1) (index_of_kind k (first + 1) ms) e)))

-- no matrix yet, and no matrix more
pub none_kept : (k n : ℕ) → k < matrix_kinds → kept_or (get_or (replicate matrix_kinds 0) k 0) n ≡ n
unfolding kept_or
none_kept k n h = if_true _ _ (eq-eqb _ _ (get_or-replicate matrix_kinds k 0 0 h))

pub kept_none : (n : ℕ) → kept_or n 0 ≡ n
unfolding kept_or
kept_none n =
    by_cases _ (eqb n 0)
    (λ (e : eqb n 0 ≡ true). if_true _ _ e ∙ sym (eqb-true n 0 e))
    (λ (e : eqb n 0 ≡ false). if_false _ _ e)
