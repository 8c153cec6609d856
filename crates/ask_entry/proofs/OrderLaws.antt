-- Laws of the order of values, by row and then by column: it is transitive, and two values that do not come before each
-- other have the same row and column.
-- Assumes nothing.
use mathlib.Core.Path.{◌≡◌, sym, ◌∙◌}
use mathlib.Core.Bool.{true, false}
use Prim.Native.Nat.{◌≤◌, ◌<◌}
use native.Mathlib.Omega.{arith}
use lib.Dec.{ltb, eqb}
use borrow.Author.Tests.{eq-eqb, ne_eqb, eqb-true, ltb-true, ltb-false}
use Rattle.table_record.specs.declared.Value.{Value}
use Rattle.base.specs.If.{both}
use Rattle.base.proofs.IfLaws.{by_cases, both_rest, both_not_left, both_not_right, both_first, both_second, either_rest, either_none_first, either_none_second}
use Rattle.doc.specs.Holds.{comes_before}

pub data Before (u v : Value) : Type 0 where
  rows : u.row < v.row → Before u v
  columns : u.row ≡ v.row → u.column < v.column → Before u v

pub before_is : (u v : Value) → comes_before u v ≡ true → Before u v
unfolding comes_before
before_is u v e =
    by_cases _ (ltb u.row v.row)
    (λ (h : ltb u.row v.row ≡ true). Before.rows (ltb-true _ _ h))
    (λ (h : ltb u.row v.row ≡ false).
    let k : both (eqb u.row v.row) (ltb u.column v.column) ≡ true = sym (either_rest _ _ h) ∙ e in
    Before.columns (eqb-true _ _ (both_first _ _ k)) (ltb-true _ _ (both_second _ _ k)))

pub before_before : (u v w : Value) → Before u v → Before v w → Before u w
before_before u v w (Before.rows h) (Before.rows k) = Before.rows (omega arith)
before_before u v w (Before.rows h) (Before.columns e k) = Before.rows (omega arith)
before_before u v w (Before.columns e h) (Before.rows k) = Before.rows (omega arith)
before_before u v w (Before.columns e h) (Before.columns f k) = Before.columns (omega arith) (omega arith)

-- a value that comes before another differs from it in row or column
pub before_other : (u v : Value) → Before u v → both (eqb u.row v.row) (eqb u.column v.column) ≡ false
before_other u v (Before.rows h) = both_not_left _ _ (ne_eqb _ _ (λ (e : u.row ≡ v.row). omega arith))
before_other u v (Before.columns e h) = both_not_right _ _ (ne_eqb _ _ (λ (f : u.column ≡ v.column). omega arith))

pub behind_other : (u v : Value) → Before u v → both (eqb v.row u.row) (eqb v.column u.column) ≡ false
behind_other u v (Before.rows h) = both_not_left _ _ (ne_eqb _ _ (λ (e : v.row ≡ u.row). omega arith))
behind_other u v (Before.columns e h) = both_not_right _ _ (ne_eqb _ _ (λ (f : v.column ≡ u.column). omega arith))

module _ (u v : Value) (no_first : comes_before u v ≡ false) (no_second : comes_before v u ≡ false) where
  pub same_row : u.row ≡ v.row
  unfolding comes_before
  same_row =
      let h : v.row ≤ u.row = ltb-false u.row v.row (either_none_first _ _ no_first) in
      let k : u.row ≤ v.row = ltb-false v.row u.row (either_none_first _ _ no_second) in
      omega arith

  pub same_column : u.column ≡ v.column
  unfolding comes_before
  same_column =
      let h : v.column ≤ u.column =
      ltb-false u.column v.column (sym (both_rest _ _ (eq-eqb u.row v.row same_row)) ∙ either_none_second _ _ no_first) in
      let k : u.column ≤ v.column =
      ltb-false v.column u.column (sym (both_rest _ _ (eq-eqb v.row u.row (sym same_row))) ∙ either_none_second _ _ no_second) in
      omega arith
