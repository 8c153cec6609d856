-- Document 01, "Sections and matrices": the shapes of the four forms, over one set of lines: its rows, each with the
-- number of its [Row] and how many numbers stand below it, on one line or on several ("Numbers may run over lines").
-- The definitions name nothing of what the reading remembers: `ShapeLaws` shows that 16 is given exactly where they fail.
-- Assumes nothing.
use Rattle.std.specs.Prelude.{ℕ, ◌+◌, ◌-◌, ◌≤◌, ◌<◌, min, max, ◌≡◌, List, [], ◌∷◌, length, get_or}

-- ---- Full_matrix and Banded_matrix

-- the number of a [Row], and how many numbers stand below it
pub record Row : Type 0 where
  pub number : ℕ
  pub count : ℕ

abbrev pub no_row : Row
no_row = record { number = 0; count = 0 }

-- the i-th row, counted from 1
unfoldable pub row_at : ℕ → List Row → Row
row_at i rows = get_or rows (i - 1) no_row

-- "row i has N-i+1 numbers, diagonal first"
unfoldable pub full_length : ℕ → ℕ → ℕ
full_length n i = n - i + 1

-- "row i has 1+min(B, N-i)"
unfoldable pub banded_length : ℕ → ℕ → ℕ → ℕ
banded_length b n i = 1 + min b (n - i)

-- "[Row] 1 to N in order", and row i has `wanted N i` numbers; a matrix with no number is a break of shape
pub record AreRows (wanted : ℕ → ℕ → ℕ) (n : ℕ) (rows : List Row) : Type 0 where
  pub some : 1 ≤ n
  pub size : length rows ≡ n
  pub order : (i : ℕ) → 1 ≤ i → i ≤ n → (row_at i rows).number ≡ i
  pub lengths : (i : ℕ) → 1 ≤ i → i ≤ n → (row_at i rows).count ≡ wanted n i

-- ---- Sparse_matrix

-- the number of a [Row], and the columns of the lines `column value` below it
pub record SparseRow : Type 0 where
  pub number : ℕ
  pub columns : List ℕ

-- "columns rising": each at least `least`, and greater than the one before it
pub data Rising : ℕ → List ℕ → Type 0 where
  none : {least : ℕ} → Rising least []
  more : {least column : ℕ} {columns : List ℕ} → least ≤ column → Rising (column + 1) columns → Rising least (column ∷ columns)

-- "rising [Row]s", each greater than the one above it; "columns rising and not below the row"
pub data RisingRows : ℕ → List SparseRow → Type 0 where
  none : {above : ℕ} → RisingRows above []
  more :
      {above : ℕ} {row : SparseRow} {rows : List SparseRow} → above < row.number → Rising row.number row.columns →
      RisingRows row.number rows → RisingRows above (row ∷ rows)

unfoldable pub greatest_column : List ℕ → ℕ
greatest_column [] = 0
greatest_column (column ∷ columns) = max column (greatest_column columns)

-- "the greatest row or column named"
unfoldable pub greatest_named : List SparseRow → ℕ
greatest_named [] = 0
greatest_named (row ∷ rows) = max (max row.number (greatest_column row.columns)) (greatest_named rows)

-- one number a line
unfoldable pub sparse_count : List SparseRow → ℕ
sparse_count [] = 0
sparse_count (row ∷ rows) = length row.columns + sparse_count rows

pub record AreSparse (n : ℕ) (rows : List SparseRow) : Type 0 where
  pub some : 1 ≤ sparse_count rows
  pub rises : RisingRows 0 rows
  -- "N is the greatest row or column named"
  pub greatest : n ≡ greatest_named rows

-- ---- the four forms

-- one set of lines, by its form: how many numbers a diagonal has; the rows of the others, in a band below their [Bandwidth]
pub data LineSet : Type 0 where
  diagonal_set : ℕ → LineSet
  full_set : List Row → LineSet
  banded_set : ℕ → List Row → LineSet
  sparse_set : List SparseRow → LineSet

-- the set has the shape of its form, with N conductors
pub data HasShape : ℕ → LineSet → Type 0 where
  -- "Diagonal_matrix: N numbers, no [Row]."
  diagonal_shape : {n : ℕ} → 1 ≤ n → HasShape n (LineSet.diagonal_set n)
  -- "Full_matrix: [Row] 1 to N in order; row i has N-i+1 numbers"
  full_shape : {n : ℕ} {rows : List Row} → AreRows full_length n rows → HasShape n (LineSet.full_set rows)
  -- "Banded_matrix: [Bandwidth] B, then [Row] 1 to N; row i has 1+min(B, N-i)."
  banded_shape : {b n : ℕ} {rows : List Row} → AreRows (banded_length b) n rows → HasShape n (LineSet.banded_set b rows)
  -- "Sparse_matrix: rising [Row]s, lines `column value`, columns rising and not below the row."
  sparse_shape : {n : ℕ} {rows : List SparseRow} → AreSparse n rows → HasShape n (LineSet.sparse_set rows)

-- a row whose length is not the wanted one
pub record WrongRow (wanted : ℕ → ℕ → ℕ) (rows : List Row) : Type 0 where
  pub row : ℕ
  pub low : 1 ≤ row
  pub high : row ≤ length rows
  pub differs : (row_at row rows).count ≡ wanted (length rows) row → ⊥
