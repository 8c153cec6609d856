-- One set of lines whose [Row]s and [Bandwidth] are in order gets 16 at its closing keyword exactly when it has not the
-- shape that the paper gives its form, or not the N of the section; and the reading's N is the N of that shape.
-- Assumes nothing.
use Prim.Native.Nat.{ℕ, zero, suc, ◌+◌, ◌-◌, ◌≤◌, ◌<◌, min, max}
use mathlib.Core.Path.{◌≡◌, refl, sym, ◌∙◌}
use mathlib.Core.Bool.{Bool, true, false, not, true≢false}
use mathlib.Core.List.{List}
use mathlib.Core.Logic.{◌⊎◌, inl, inr}
use native.Mathlib.Nat.{le_refl}
use native.Mathlib.Omega.{arith}
use lib.ListN.{length}
use lib.Dec.{eqb}
use borrow.Author.Tests.{eq-eqb, eqb-true, eqb-false, lt-leb, leb-false, not-false}
use Rattle.table_layout.specs.Codes.{diagonal, banded, sparse, full}
use Rattle.table_layout.specs.Bounds.{most_conductors}
use Rattle.base.specs.If.{provided◌then◌else◌, both, either}
use Rattle.base.proofs.IfLaws.{
  by_cases,
  both_true,
  both_not_left,
  both_not_right,
  either_false,
  either_none_first,
  either_none_second,
  not_via,
  not_not_via,
}
use Rattle.line_matrix.specs.declared.Matrix.{Matrix}
use Rattle.line_matrix.specs.Matrix.{new_matrix, is_wrong_bandwidth, with_bandwidth, is_shaped, shape_conductors, is_wrong_shape}
use Rattle.law_grammar.specs.Way.Shape.{
  Row,
  row_at,
  full_length,
  banded_length,
  AreRows,
  SparseRow,
  greatest_named,
  sparse_count,
  AreSparse,
  LineSet,
  HasShape,
  WrongRow,
}
use Rattle.law_grammar.specs.Way.Shape.LineSet.{diagonal_set, full_set, banded_set, sparse_set}
use Rattle.law_grammar.specs.Way.Closing.{
  rows_count,
  numbers_in,
  after_rows,
  after_sparse,
  closing,
  RowsInOrder,
  SparseInOrder,
  InOrder,
  IsWhole,
  FailsWith,
}
use Rattle.law_grammar.proofs.RowsLaws.{Fixed, Unread, rows_order, rows_named, rows_most, rows_conductors, rows_told, rows_shaped, rows_some}
use Rattle.law_grammar.proofs.RowsLaws as rows_laws
use Rattle.law_grammar.proofs.SparseLaws as sparse_laws

-- ---- the closing test, whatever the form

module _ (m : Matrix) (known v : ℕ) where
  module _ (h : is_wrong_shape m known v ≡ false) where
    told_rest : either (not (is_shaped m v)) (both (not (eqb known 0)) (not (eqb known (shape_conductors m v)))) ≡ false
    unfolding is_wrong_shape
    told_rest = either_none_second _ _ h

    told_some : m.first < v
    unfolding is_wrong_shape
    told_some = leb-false v m.first (either_none_first _ _ h)

    told_shaped : is_shaped m v ≡ true
    told_shaped = not-false _ (either_none_first _ _ told_rest)

    told_same : (known ≡ 0) ⊎ (known ≡ shape_conductors m v)
    told_same =
        by_cases _ (eqb known 0) (λ (e : eqb known 0 ≡ true). inl (eqb-true _ _ e))
        (λ (e : eqb known 0 ≡ false).
        by_cases _ (eqb known (shape_conductors m v)) (λ (g : eqb known (shape_conductors m v) ≡ true). inr (eqb-true _ _ g))
        (λ (g : eqb known (shape_conductors m v) ≡ false).
        absurd (true≢false (sym (both_true _ _ (not_via e) (not_via g)) ∙ either_none_second _ _ told_rest))))

  same_kept : (known ≡ 0) ⊎ (known ≡ shape_conductors m v) → both (not (eqb known 0)) (not (eqb known (shape_conductors m v))) ≡ false
  same_kept (inl e) = both_not_left _ _ (not_not_via (eq-eqb _ _ e))
  same_kept (inr e) = both_not_right _ _ (not_not_via (eq-eqb _ _ e))

  right_kept : m.first < v → is_shaped m v ≡ true → (known ≡ 0) ⊎ (known ≡ shape_conductors m v) → is_wrong_shape m known v ≡ false
  unfolding is_wrong_shape
  right_kept some shaped same =
      either_false _ _ (lt-leb v m.first some) (either_false _ _ (not_not_via shaped) (same_kept same))

-- ---- each form

-- the shape of a set, and what the reading knows at its end
record Right (n : ℕ) (m : Matrix) (v : ℕ) : Type 0 where
  some : m.first < v
  shaped : is_shaped m v ≡ true
  conductors : shape_conductors m v ≡ n

-- Diagonal_matrix
module _ (v count : ℕ) where
  diagonal_conductors : shape_conductors (new_matrix diagonal v) (v + count) ≡ count
  unfolding shape_conductors new_matrix provided◌then◌else◌
  diagonal_conductors = omega arith

  diagonal_told : (new_matrix diagonal v).first < v + count → HasShape count (diagonal_set count)
  unfolding new_matrix
  diagonal_told h =
      let some : 1 ≤ count = omega arith in
      HasShape.diagonal_shape some

  diagonal_right : 1 ≤ count → Right count (new_matrix diagonal v) (v + count)
  unfolding new_matrix is_shaped provided◌then◌else◌
  diagonal_right h = record { some = omega arith; shaped = refl; conductors = diagonal_conductors }

-- Full_matrix
module _ (v : ℕ) (rs : List Row) where
  pub full_fixed : Fixed (new_matrix full v)
  unfolding new_matrix provided◌then◌else◌
  full_fixed = record { not_down = λ (e : full ≡ diagonal). omega arith; not_sparse = λ (e : full ≡ sparse). omega arith; some = omega arith }

  full_unread : Unread (new_matrix full v) v
  unfolding new_matrix
  full_unread = record { no_row_lem = refl; no_number = refl; nothing_wrong = refl }

  full_first : (new_matrix full v).first ≡ v
  unfolding new_matrix
  full_first = refl

  module _ (most : length rs ≤ most_conductors) where
    full_agree : (i : ℕ) → 1 ≤ i → i ≤ length rs → full_length (length rs) i ≡ min (new_matrix full v).band (length rs - i + 1)
    unfolding full_length new_matrix provided◌then◌else◌
    full_agree i a b = omega arith

-- Banded_matrix
module _ (v width : ℕ) (rs : List Row) where
  pub banded_fixed : Fixed (with_bandwidth width (new_matrix banded v))
  unfolding new_matrix with_bandwidth
  banded_fixed = record { not_down = λ (e : banded ≡ diagonal). omega arith; not_sparse = λ (e : banded ≡ sparse). omega arith; some = omega arith }

  banded_unread : Unread (with_bandwidth width (new_matrix banded v)) v
  unfolding new_matrix with_bandwidth
  banded_unread = record { no_row_lem = refl; no_number = refl; nothing_wrong = refl }

  banded_first : (with_bandwidth width (new_matrix banded v)).first ≡ v
  unfolding new_matrix with_bandwidth
  banded_first = refl

  banded_agree : (i : ℕ) → 1 ≤ i → i ≤ length rs → banded_length width (length rs) i ≡ min (with_bandwidth width (new_matrix banded v)).band (length rs - i + 1)
  unfolding banded_length new_matrix with_bandwidth
  banded_agree i a b = omega arith

-- both of them
module _
    (wanted : ℕ → ℕ → ℕ)
    (m : Matrix)
    (v : ℕ)
    (first : m.first ≡ v)
    (k : Fixed m)
    (u : Unread m v)
    (rs : List Row)
    (agree : (i : ℕ) → 1 ≤ i → i ≤ length rs → wanted (length rs) i ≡ min m.band (length rs - i + 1))
    (o : RowsInOrder m v rs) where
  rows_right : (n : ℕ) → AreRows wanted n rs → Right n (after_rows rs m v) (v + rows_count rs)
  rows_right n h =
      let count : 1 ≤ rows_count rs = rows_some wanted m v k u rs agree o n h in
      let start : (after_rows rs m v).first ≡ m.first = rows_laws.after_first rs m v in
      record {
        some = omega arith;
        shaped = rows_shaped wanted m v k u rs agree o n h;
        conductors = rows_conductors m v k u rs o ∙ h.size;
      }

-- Sparse_matrix
module _ (v : ℕ) (rs : List SparseRow) where
  new_sparse : (new_matrix sparse v).form ≡ sparse
  unfolding new_matrix
  new_sparse = refl

  sparse_form : (after_sparse rs (new_matrix sparse v) v).form ≡ sparse
  sparse_form = sparse_laws.after_form rs (new_matrix sparse v) v ∙ new_sparse

  sparse_first : (after_sparse rs (new_matrix sparse v) v).first ≡ v
  unfolding new_matrix
  sparse_first = sparse_laws.after_first rs (new_matrix sparse v) v

  sparse_greatest : shape_conductors (after_sparse rs (new_matrix sparse v) v) (v + sparse_count rs) ≡ greatest_named rs
  unfolding new_matrix
  sparse_greatest =
      let e : (after_sparse rs (new_matrix sparse v) v).rows.greatest ≡ max 0 (greatest_named rs) =
      sparse_laws.after_greatest rs (new_matrix sparse v) v in
      let f : (after_sparse rs (new_matrix sparse v) v).rows.greatest ≡ greatest_named rs = omega arith in
      sparse_laws.sparse_conductors (after_sparse rs (new_matrix sparse v) v) sparse_form (v + sparse_count rs) ∙ f

  sparse_told :
      SparseInOrder (new_matrix sparse v) v rs → (after_sparse rs (new_matrix sparse v) v).first < v + sparse_count rs →
      is_shaped (after_sparse rs (new_matrix sparse v) v) (v + sparse_count rs) ≡ true → AreSparse (greatest_named rs) rs
  unfolding new_matrix
  sparse_told o some h =
      let first : (after_sparse rs (new_matrix sparse v) v).first ≡ v = sparse_first in
      let fits : (after_sparse rs (new_matrix sparse v) v).rows.fits ≡ true =
      sym (sparse_laws.sparse_shaped (after_sparse rs (new_matrix sparse v) v) sparse_form (v + sparse_count rs)) ∙ h in
      record { some = omega arith; rises = (sparse_laws.rises_told rs (new_matrix sparse v) v new_sparse o fits).1; greatest = refl }

  sparse_right : (n : ℕ) → AreSparse n rs → Right n (after_sparse rs (new_matrix sparse v) v) (v + sparse_count rs)
  unfolding new_matrix
  sparse_right n h =
      let first : (after_sparse rs (new_matrix sparse v) v).first ≡ v = sparse_first in
      let some : 1 ≤ sparse_count rs = h.some in
      record {
        some = omega arith;
        shaped =
            sparse_laws.sparse_shaped (after_sparse rs (new_matrix sparse v) v) sparse_form (v + sparse_count rs)
            ∙ sparse_laws.rises_fit rs (new_matrix sparse v) v new_sparse refl h.rises;
        conductors = sparse_greatest ∙ sym h.greatest;
      }

-- ---- one set of lines

set_right : {n : ℕ} {s : LineSet} (v : ℕ) → InOrder v s → HasShape n s → Right n (closing s v) (v + numbers_in s)
unfolding closing numbers_in
set_right v InOrder.diagonal_order (HasShape.diagonal_shape {n} h) = diagonal_right v n h
set_right {n} v (InOrder.full_order {rows} o) (HasShape.full_shape h) =
    rows_right full_length (new_matrix full v) v (full_first v rows) (full_fixed v rows) (full_unread v rows) rows
    (full_agree v rows (rows_most (new_matrix full v) v (full_fixed v rows) (full_unread v rows) rows o)) o n h
set_right {n} v (InOrder.banded_order {b} {rows} w o) (HasShape.banded_shape h) =
    rows_right (banded_length b) (with_bandwidth b (new_matrix banded v)) v (banded_first v b rows) (banded_fixed v b rows) (banded_unread v b rows) rows
    (banded_agree v b rows) o n h
set_right {n} v (InOrder.sparse_order {rows} o) (HasShape.sparse_shape h) = sparse_right v rows n h

set_told :
    {s : LineSet} (v : ℕ) → InOrder v s → (closing s v).first < v + numbers_in s → is_shaped (closing s v) (v + numbers_in s) ≡ true →
    HasShape (shape_conductors (closing s v) (v + numbers_in s)) s
unfolding closing numbers_in
set_told v (InOrder.diagonal_order {count}) some h = rw (diagonal_conductors v count) (diagonal_told v count some)
set_told v (InOrder.full_order {rows} o) some h =
    rw (rows_conductors (new_matrix full v) v (full_fixed v rows) (full_unread v rows) rows o)
    (HasShape.full_shape
    (rows_told full_length (new_matrix full v) v (full_fixed v rows) (full_unread v rows) rows
    (full_agree v rows (rows_most (new_matrix full v) v (full_fixed v rows) (full_unread v rows) rows o)) o h))
set_told v (InOrder.banded_order {b} {rows} w o) some h =
    rw (rows_conductors (with_bandwidth b (new_matrix banded v)) v (banded_fixed v b rows) (banded_unread v b rows) rows o)
    (HasShape.banded_shape
    (rows_told (banded_length b) (with_bandwidth b (new_matrix banded v)) v (banded_fixed v b rows) (banded_unread v b rows) rows
    (banded_agree v b rows) o h))
set_told v (InOrder.sparse_order {rows} o) some h = rw (sparse_greatest v rows) (HasShape.sparse_shape (sparse_told v rows o some h))

-- ---- the law

module _ (s : LineSet) (v : ℕ) (o : InOrder v s) where
  -- the reading's N is the N of the shape
  pub shape_conductors_lem : {n : ℕ} → HasShape n s → shape_conductors (closing s v) (v + numbers_in s) ≡ n
  shape_conductors_lem h = (set_right v o h).conductors

  wrong_never : (known : ℕ) → is_wrong_shape (closing s v) known (v + numbers_in s) ≡ true → IsWhole known s → ⊥
  wrong_never known h w =
      let r : Right w.conductors (closing s v) (v + numbers_in s) = set_right v o w.shape in
      let same : (known ≡ 0) ⊎ (known ≡ shape_conductors (closing s v) (v + numbers_in s)) = rw r.conductors w.same in
      true≢false (sym h ∙ right_kept (closing s v) known (v + numbers_in s) r.some r.shaped same)

  -- 16 is given at the closing keyword exactly when the set has not the shape of its form, or another N than is known
  pub shape_judged : (known : ℕ) → FailsWith (is_wrong_shape (closing s v) known (v + numbers_in s)) (IsWhole known s)
  shape_judged known =
      record {
        right =
            λ (h : is_wrong_shape (closing s v) known (v + numbers_in s) ≡ false).
            record {
              conductors = shape_conductors (closing s v) (v + numbers_in s);
              shape = set_told v o (told_some (closing s v) known (v + numbers_in s) h) (told_shaped (closing s v) known (v + numbers_in s) h);
              same = told_same (closing s v) known (v + numbers_in s) h;
            };
        wrong = λ (h : is_wrong_shape (closing s v) known (v + numbers_in s) ≡ true) (w : IsWhole known s). wrong_never known h w;
      }

  -- where no N is known, 16 is given exactly when the set has the shape of its form with no N at all
  pub shape_alone : FailsWith (is_wrong_shape (closing s v) 0 (v + numbers_in s)) (HasShape (shape_conductors (closing s v) (v + numbers_in s)) s)
  shape_alone =
      record {
        right =
            λ (h : is_wrong_shape (closing s v) 0 (v + numbers_in s) ≡ false).
            set_told v o (told_some (closing s v) 0 (v + numbers_in s) h) (told_shaped (closing s v) 0 (v + numbers_in s) h);
        wrong =
            λ (h : is_wrong_shape (closing s v) 0 (v + numbers_in s) ≡ true) (w : HasShape (shape_conductors (closing s v) (v + numbers_in s)) s).
            wrong_never 0 h (record { conductors = shape_conductors (closing s v) (v + numbers_in s); shape = w; same = inl refl });
      }

-- a set that has a shape breaks no order
pub shape_order : {n : ℕ} (s : LineSet) (v : ℕ) → HasShape n s → n ≤ most_conductors → InOrder v s
unfolding is_wrong_bandwidth new_matrix both either provided◌then◌else◌
shape_order (diagonal_set count) v h most = InOrder.diagonal_order
shape_order {n} (full_set rows) v (HasShape.full_shape h) most =
    InOrder.full_order (rows_order (new_matrix full v) v (full_fixed v rows) (full_unread v rows) rows full_length n h most)
shape_order {n} (banded_set b rows) v (HasShape.banded_shape h) most =
    InOrder.banded_order refl
    (rows_order (with_bandwidth b (new_matrix banded v)) v (banded_fixed v b rows) (banded_unread v b rows) rows (banded_length b) n h most)
shape_order {n} (sparse_set rows) v (HasShape.sparse_shape h) most =
    let named : n ≡ greatest_named rows = h.greatest in
    InOrder.sparse_order (sparse_laws.rises_order rows (new_matrix sparse v) v (new_sparse v rows) h.rises (omega arith))

-- ---- which row

-- up to a row all have the wanted length, or one has not
data Found (wanted : ℕ → ℕ → ℕ) (rs : List Row) (i : ℕ) : Type 0 where
  all : ((j : ℕ) → 1 ≤ j → j ≤ i → (row_at j rs).count ≡ wanted (length rs) j) → Found wanted rs i
  wrong : WrongRow wanted rs → Found wanted rs i

found_more : (wanted : ℕ → ℕ → ℕ) (rs : List Row) (i : ℕ) → suc i ≤ length rs → Found wanted rs i → Found wanted rs (suc i)
found_more wanted rs i h (Found.wrong w) = Found.wrong w
found_more wanted rs i h (Found.all f) =
    by_cases (Found wanted rs (suc i)) (eqb (row_at (suc i) rs).count (wanted (length rs) (suc i)))
    (λ (e : eqb (row_at (suc i) rs).count (wanted (length rs) (suc i)) ≡ true).
    Found.all
    (λ (j : ℕ) (a : 1 ≤ j) (b : j ≤ suc i).
    by_cases ((row_at j rs).count ≡ wanted (length rs) j) (eqb (suc i) j)
    (λ (g : eqb (suc i) j ≡ true). rw (← eqb-true (suc i) j g) (eqb-true _ _ e))
    (λ (g : eqb (suc i) j ≡ false). let d : suc i ≡ j → ⊥ = eqb-false (suc i) j g in f j a (omega arith))))
    (λ (e : eqb (row_at (suc i) rs).count (wanted (length rs) (suc i)) ≡ false).
    Found.wrong (record { row = suc i; low = omega arith; high = h; differs = eqb-false _ _ e }))

found : (wanted : ℕ → ℕ → ℕ) (rs : List Row) (i : ℕ) → i ≤ length rs → Found wanted rs i
found wanted rs zero h = Found.all (λ (j : ℕ) (a : 1 ≤ j) (b : j ≤ 0). absurd (omega arith))
found wanted rs (suc i) h = found_more wanted rs i h (found wanted rs i (omega arith))

-- 16 at the end of a set in rows whose N is not another than is known: there is a row of a wrong length
wrong_found :
    (wanted : ℕ → ℕ → ℕ) (rs : List Row) → 1 ≤ length rs → ((i : ℕ) → 1 ≤ i → i ≤ length rs → (row_at i rs).number ≡ i) →
    (AreRows wanted (length rs) rs → ⊥) → Found wanted rs (length rs) → WrongRow wanted rs
wrong_found wanted rs some order never (Found.wrong w) = w
wrong_found wanted rs some order never (Found.all f) = absurd (never (record { some = some; size = refl; order = order; lengths = f }))

module _ (rs : List Row) (v known : ℕ) (some : 1 ≤ length rs) (same : (known ≡ 0) ⊎ (known ≡ length rs)) where
  pub full_wrong_row : InOrder v (full_set rs) → is_wrong_shape (closing (full_set rs) v) known (v + numbers_in (full_set rs)) ≡ true → WrongRow full_length rs
  full_wrong_row (InOrder.full_order o) h =
      wrong_found full_length rs some (rows_named (new_matrix full v) v (full_fixed v rs) (full_unread v rs) rs o)
      (λ (r : AreRows full_length (length rs) rs).
      wrong_never (full_set rs) v (InOrder.full_order o) known h (record { conductors = length rs; shape = HasShape.full_shape r; same = same }))
      (found full_length rs (length rs) (le_refl (length rs)))

  pub banded_wrong_row :
      (b : ℕ) → InOrder v (banded_set b rs) → is_wrong_shape (closing (banded_set b rs) v) known (v + numbers_in (banded_set b rs)) ≡ true →
      WrongRow (banded_length b) rs
  banded_wrong_row b (InOrder.banded_order w o) h =
      wrong_found (banded_length b) rs some
      (rows_named (with_bandwidth b (new_matrix banded v)) v (banded_fixed v b rs) (banded_unread v b rs) rs o)
      (λ (r : AreRows (banded_length b) (length rs) rs).
      wrong_never (banded_set b rs) v (InOrder.banded_order w o) known h
      (record { conductors = length rs; shape = HasShape.banded_shape r; same = same }))
      (found (banded_length b) rs (length rs) (le_refl (length rs)))

-- and the other way round: where a row has a wrong length, 16 is given, whatever N is known
wrong_rows : (wanted : ℕ → ℕ → ℕ) (rs : List Row) (n : ℕ) → WrongRow wanted rs → AreRows wanted n rs → ⊥
wrong_rows wanted rs n w h =
    let size : length rs ≡ n = h.size in
    let high : w.row ≤ length rs = w.high in
    let right : (row_at w.row rs).count ≡ wanted n w.row = h.lengths w.row w.low (omega arith) in
    w.differs (rw (← size) at right)

full_none : {n : ℕ} (rs : List Row) → WrongRow full_length rs → HasShape n (full_set rs) → ⊥
full_none {n} rs w (HasShape.full_shape h) = wrong_rows full_length rs n w h

banded_none : {n : ℕ} (b : ℕ) (rs : List Row) → WrongRow (banded_length b) rs → HasShape n (banded_set b rs) → ⊥
banded_none {n} b rs w (HasShape.banded_shape h) = wrong_rows (banded_length b) rs n w h

given_when : (test : Bool) (P : Type 0) → FailsWith test P → (P → ⊥) → test ≡ true
given_when true P f n = refl
given_when false P f n = absurd (n (f.right refl))

module _ (rs : List Row) (v known : ℕ) where
  pub wrong_row_full : InOrder v (full_set rs) → WrongRow full_length rs → is_wrong_shape (closing (full_set rs) v) known (v + numbers_in (full_set rs)) ≡ true
  wrong_row_full o w =
      given_when _ _ (shape_judged (full_set rs) v o known) (λ (h : IsWhole known (full_set rs)). full_none rs w h.shape)

  pub wrong_row_banded :
      (b : ℕ) → InOrder v (banded_set b rs) → WrongRow (banded_length b) rs →
      is_wrong_shape (closing (banded_set b rs) v) known (v + numbers_in (banded_set b rs)) ≡ true
  wrong_row_banded b o w =
      given_when _ _ (shape_judged (banded_set b rs) v o known) (λ (h : IsWhole known (banded_set b rs)). banded_none b rs w h.shape)
