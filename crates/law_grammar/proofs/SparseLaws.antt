-- Sparse_matrix: the reading compares each [Row] with the one above it, and each column with the one before it or with its
-- row. So it finds a set right exactly when rows and columns rise and no column is below its row.
-- Assumes nothing.
use Prim.Native.Nat.{ℕ, ◌+◌, ◌≤◌, ◌<◌, max}
use mathlib.Core.Path.{◌≡◌, refl, sym, ◌∙◌, ap}
use mathlib.Core.Bool.{true, false}
use mathlib.Core.List.{List, [], ◌∷◌}
use native.Mathlib.Omega.{arith}
use lib.ListN.{length}
use lib.Dec.{eqb, leb}
use borrow.Author.Tests.{eq-eqb, le-leb, lt-leb, leb-true, leb-false}
use Rattle.table_layout.specs.Codes.{diagonal, sparse}
use Rattle.table_layout.specs.Bounds.{most_conductors}
use Rattle.base.specs.If.{both}
use Rattle.base.proofs.IfLaws.{if_true, if_false, both_true, both_first, both_second, either_left}
use Rattle.line_matrix.specs.declared.Matrix.{Matrix}
use Rattle.line_matrix.specs.Matrix.{is_wrong_row, still_fits, with_row, with_column, is_shaped, shape_conductors}
use Rattle.law_grammar.specs.Way.Shape.{SparseRow, Rising, RisingRows, greatest_column, greatest_named}
use Rattle.law_grammar.specs.Way.Closing.{after_columns, after_sparse, SparseInOrder}

-- ---- the lines of one row

columns_form : (cs : List ℕ) (m : Matrix) → (after_columns cs m).form ≡ m.form
unfolding after_columns with_column
columns_form [] m = refl
columns_form (c ∷ cs) m = columns_form cs (with_column c m)

columns_first : (cs : List ℕ) (m : Matrix) → (after_columns cs m).first ≡ m.first
unfolding after_columns with_column
columns_first [] m = refl
columns_first (c ∷ cs) m = columns_first cs (with_column c m)

columns_row : (cs : List ℕ) (m : Matrix) → (after_columns cs m).rows.row ≡ m.rows.row
unfolding after_columns with_column
columns_row [] m = refl
columns_row (c ∷ cs) m = columns_row cs (with_column c m)

columns_greatest : (cs : List ℕ) (m : Matrix) → (after_columns cs m).rows.greatest ≡ max m.rows.greatest (greatest_column cs)
unfolding after_columns with_column greatest_column
columns_greatest [] m = omega arith
columns_greatest (c ∷ cs) m =
    let ih : (after_columns cs (with_column c m)).rows.greatest ≡ max (max m.rows.greatest c) (greatest_column cs) =
    columns_greatest cs (with_column c m) in
    omega arith

columns_told : (cs : List ℕ) (m : Matrix) → (after_columns cs m).rows.fits ≡ true → (m.rows.fits ≡ true) × Rising m.rows.least cs
unfolding after_columns with_column
columns_told [] m h = (h, Rising.none)
columns_told (c ∷ cs) m h =
    let ih : (both m.rows.fits (leb m.rows.least c) ≡ true) × Rising (c + 1) cs = columns_told cs (with_column c m) h in
    (both_first _ _ ih.0, Rising.more (leb-true _ _ (both_second _ _ ih.0)) ih.1)

columns_fit : (cs : List ℕ) (m : Matrix) → m.rows.fits ≡ true → Rising m.rows.least cs → (after_columns cs m).rows.fits ≡ true
unfolding after_columns with_column
columns_fit [] m h r = h
columns_fit (c ∷ cs) m h (Rising.more a r) = columns_fit cs (with_column c m) (both_true _ _ h (le-leb _ _ a)) r

-- ---- one [Row]

module _ (m : Matrix) (f : m.form ≡ sparse) where
  not_diagonal : eqb m.form diagonal ≡ false
  not_diagonal = ap (λ (x : ℕ). eqb x diagonal) f

  row_test : (i : ℕ) → is_wrong_row i m ≡ leb i m.rows.row
  unfolding is_wrong_row
  row_test i = if_false _ _ not_diagonal ∙ if_true _ _ (eq-eqb _ _ f)

  row_rises : (i : ℕ) → is_wrong_row i m ≡ false → m.rows.row < i
  row_rises i e = leb-false i m.rows.row (sym (row_test i) ∙ e)

  row_right : (i : ℕ) → m.rows.row < i → is_wrong_row i m ≡ false
  row_right i h = row_test i ∙ lt-leb i m.rows.row h

  fits_told : (v : ℕ) → still_fits m v ≡ true → m.rows.fits ≡ true
  unfolding still_fits
  fits_told v h = both_first _ _ h

  fits_still : (v : ℕ) → m.rows.fits ≡ true → still_fits m v ≡ true
  unfolding still_fits
  fits_still v h = both_true _ _ h (either_left _ _ (eq-eqb _ _ f))

  pub sparse_shaped : (v : ℕ) → is_shaped m v ≡ m.rows.fits
  unfolding is_shaped
  sparse_shaped v = if_false _ _ not_diagonal ∙ if_true _ _ (eq-eqb _ _ f)

  pub sparse_conductors : (v : ℕ) → shape_conductors m v ≡ m.rows.greatest
  unfolding shape_conductors
  sparse_conductors v = if_false _ _ not_diagonal ∙ if_true _ _ (eq-eqb _ _ f)

-- what a [Row] and the lines below it leave
abbrev behind : SparseRow → Matrix → ℕ → Matrix
behind r m v = after_columns r.columns (with_row r.number m v)

module _ (r : SparseRow) (m : Matrix) (v : ℕ) where
  behind_form : (behind r m v).form ≡ m.form
  unfolding with_row
  behind_form = columns_form r.columns (with_row r.number m v)

  behind_first : (behind r m v).first ≡ m.first
  unfolding with_row
  behind_first = columns_first r.columns (with_row r.number m v)

  behind_row : (behind r m v).rows.row ≡ r.number
  unfolding with_row
  behind_row = columns_row r.columns (with_row r.number m v)

  behind_greatest : (behind r m v).rows.greatest ≡ max (max m.rows.greatest r.number) (greatest_column r.columns)
  unfolding with_row
  behind_greatest = columns_greatest r.columns (with_row r.number m v)

  module _ (f : m.form ≡ sparse) where
    behind_told : (behind r m v).rows.fits ≡ true → (m.rows.fits ≡ true) × Rising r.number r.columns
    unfolding with_row
    behind_told h =
        let told : (still_fits m v ≡ true) × Rising r.number r.columns = columns_told r.columns (with_row r.number m v) h in
        (fits_told m f v told.0, told.1)

    behind_fits : m.rows.fits ≡ true → Rising r.number r.columns → (behind r m v).rows.fits ≡ true
    unfolding with_row
    behind_fits h s = columns_fit r.columns (with_row r.number m v) (fits_still m f v h) s

-- ---- all of them

pub after_form : (rs : List SparseRow) (m : Matrix) (v : ℕ) → (after_sparse rs m v).form ≡ m.form
unfolding after_sparse
after_form [] m v = refl
after_form (r ∷ rs) m v = after_form rs (behind r m v) (v + length r.columns) ∙ behind_form r m v

pub after_first : (rs : List SparseRow) (m : Matrix) (v : ℕ) → (after_sparse rs m v).first ≡ m.first
unfolding after_sparse
after_first [] m v = refl
after_first (r ∷ rs) m v = after_first rs (behind r m v) (v + length r.columns) ∙ behind_first r m v

pub after_greatest : (rs : List SparseRow) (m : Matrix) (v : ℕ) → (after_sparse rs m v).rows.greatest ≡ max m.rows.greatest (greatest_named rs)
unfolding after_sparse greatest_named
after_greatest [] m v = omega arith
after_greatest (r ∷ rs) m v =
    let ih : (after_sparse rs (behind r m v) (v + length r.columns)).rows.greatest ≡ max (behind r m v).rows.greatest (greatest_named rs) =
    after_greatest rs (behind r m v) (v + length r.columns) in
    ih ∙ ap (λ (x : ℕ). max x (greatest_named rs)) (behind_greatest r m v)
    ∙ maxes m.rows.greatest r.number (greatest_column r.columns) (greatest_named rs)
  where
    maxes : (a b c d : ℕ) → max (max (max a b) c) d ≡ max a (max (max b c) d)
    maxes a b c d = omega arith

pub rises_told :
    (rs : List SparseRow) (m : Matrix) (v : ℕ) → m.form ≡ sparse → SparseInOrder m v rs → (after_sparse rs m v).rows.fits ≡ true →
    (m.rows.fits ≡ true) × RisingRows m.rows.row rs
unfolding after_sparse
rises_told [] m v f o h = (h, RisingRows.none)
rises_told (r ∷ rs) m v f (SparseInOrder.more e b o) h =
    let ih : ((behind r m v).rows.fits ≡ true) × RisingRows (behind r m v).rows.row rs =
    rises_told rs (behind r m v) (v + length r.columns) (behind_form r m v ∙ f) o h in
    let here : (m.rows.fits ≡ true) × Rising r.number r.columns = behind_told r m v f ih.0 in
    let later : RisingRows r.number rs = rw (behind_row r m v) at ih.1 in
    (here.0, RisingRows.more (row_rises m f r.number e) here.1 later)

pub rises_fit :
    (rs : List SparseRow) (m : Matrix) (v : ℕ) → m.form ≡ sparse → m.rows.fits ≡ true → RisingRows m.rows.row rs →
    (after_sparse rs m v).rows.fits ≡ true
unfolding after_sparse
rises_fit [] m v f h r = h
rises_fit (r ∷ rs) m v f h (RisingRows.more a c s) =
    let later : RisingRows (behind r m v).rows.row rs = rw (behind_row r m v) s in
    rises_fit rs (behind r m v) (v + length r.columns) (behind_form r m v ∙ f) (behind_fits r m v f h c) later

-- rising rows are in order for the reading
pub rises_order :
    (rs : List SparseRow) (m : Matrix) (v : ℕ) → m.form ≡ sparse → RisingRows m.rows.row rs → greatest_named rs ≤ most_conductors →
    SparseInOrder m v rs
unfolding greatest_named
rises_order [] m v f r most = SparseInOrder.none
rises_order (r ∷ rs) m v f (RisingRows.more a c s) most =
    let later : RisingRows (behind r m v).rows.row rs = rw (behind_row r m v) s in
    SparseInOrder.more (row_right m f r.number a) (omega arith)
    (rises_order rs (behind r m v) (v + length r.columns) (behind_form r m v ∙ f) later (omega arith))
