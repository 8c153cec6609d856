-- The reading of one set of lines: what is remembered of it when the closing keyword comes, and that no [Row] and no
-- [Bandwidth] on the way was out of order. `values` is how many values the file has before it.
-- Assumes nothing.
use Rattle.std.specs.Prelude.{ℕ, ◌+◌, ◌≤◌, ◌≡◌, Bool, true, false, List, [], ◌∷◌, ◌⊎◌, length}
use Rattle.table_layout.specs.Codes.{diagonal, banded, sparse, full}
use Rattle.table_layout.specs.Bounds.{most_conductors}
use Rattle.line_matrix.specs.declared.Matrix.{Matrix}
use Rattle.line_matrix.specs.Matrix.{new_matrix, is_wrong_bandwidth, is_wrong_row, with_bandwidth, with_row, with_column}
use Rattle.law_grammar.specs.Way.Shape.{Row, SparseRow, sparse_count, LineSet, HasShape}
use Rattle.law_grammar.specs.Way.Shape.LineSet.{diagonal_set, full_set, banded_set, sparse_set}

-- ---- the numbers of a set

unfoldable pub rows_count : List Row → ℕ
rows_count [] = 0
rows_count (row ∷ rows) = row.count + rows_count rows

unfoldable pub numbers_in : LineSet → ℕ
numbers_in (diagonal_set count) = count
numbers_in (full_set rows) = rows_count rows
numbers_in (banded_set b rows) = rows_count rows
numbers_in (sparse_set rows) = sparse_count rows

-- ---- the matrix after the set. A line of numbers changes only the count of values

unfoldable pub after_rows : List Row → Matrix → ℕ → Matrix
after_rows [] m values = m
after_rows (row ∷ rows) m values = after_rows rows (with_row row.number m values) (values + row.count)

unfoldable pub after_columns : List ℕ → Matrix → Matrix
after_columns [] m = m
after_columns (column ∷ columns) m = after_columns columns (with_column column m)

unfoldable pub after_sparse : List SparseRow → Matrix → ℕ → Matrix
after_sparse [] m values = m
after_sparse (row ∷ rows) m values =
    after_sparse rows (after_columns row.columns (with_row row.number m values)) (values + length row.columns)

unfoldable pub closing : LineSet → ℕ → Matrix
closing (diagonal_set count) values = new_matrix diagonal values
closing (full_set rows) values = after_rows rows (new_matrix full values) values
closing (banded_set b rows) values = after_rows rows (with_bandwidth b (new_matrix banded values)) values
closing (sparse_set rows) values = after_sparse rows (new_matrix sparse values) values

-- ---- no [Row] and no [Bandwidth] is out of order, and each [Row] is at most 256 (else it breaks 14)

pub data RowsInOrder : Matrix → ℕ → List Row → Type 0 where
  none : {m : Matrix} {values : ℕ} → RowsInOrder m values []
  more :
      {m : Matrix} {values : ℕ} {row : Row} {rows : List Row} → is_wrong_row row.number m ≡ false → row.number ≤ most_conductors →
      RowsInOrder (with_row row.number m values) (values + row.count) rows → RowsInOrder m values (row ∷ rows)

pub data SparseInOrder : Matrix → ℕ → List SparseRow → Type 0 where
  none : {m : Matrix} {values : ℕ} → SparseInOrder m values []
  more :
      {m : Matrix} {values : ℕ} {row : SparseRow} {rows : List SparseRow} →
      is_wrong_row row.number m ≡ false → row.number ≤ most_conductors →
      SparseInOrder (after_columns row.columns (with_row row.number m values)) (values + length row.columns) rows →
      SparseInOrder m values (row ∷ rows)

pub data InOrder (values : ℕ) : LineSet → Type 0 where
  diagonal_order : {count : ℕ} → InOrder values (diagonal_set count)
  full_order : {rows : List Row} → RowsInOrder (new_matrix full values) values rows → InOrder values (full_set rows)
  banded_order :
      {b : ℕ} {rows : List Row} → is_wrong_bandwidth (new_matrix banded values) ≡ false →
      RowsInOrder (with_bandwidth b (new_matrix banded values)) values rows → InOrder values (banded_set b rows)
  sparse_order : {rows : List SparseRow} → SparseInOrder (new_matrix sparse values) values rows → InOrder values (sparse_set rows)

-- ---- what the closing keyword is judged by (16)

-- the set has the shape of its form. "N is the conductor count, the same for a section's matrices": `known` is that of the
-- earlier matrices of the section, 0 if there is none
pub record IsWhole (known : ℕ) (set : LineSet) : Type 0 where
  pub conductors : ℕ
  pub shape : HasShape conductors set
  pub same : (known ≡ 0) ⊎ (known ≡ conductors)

-- a test is true exactly when P fails
pub record FailsWith (test : Bool) (P : Type 0) : Type 0 where
  pub right : test ≡ false → P
  pub wrong : test ≡ true → P → ⊥
