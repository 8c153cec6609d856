-- The lines of one set, from below the keyword that opens a matrix to the one that closes it: the rows that they write,
-- and the reading of them, line by line.
-- Assumes nothing.
use Rattle.std.specs.Prelude.{ℕ, ◌+◌, ◌≤◌, ◌≡◌, false, List, [], ◌∷◌, length, eqb, unwrap_or}
use Rattle.table_layout.specs.Codes.{diagonal, banded, sparse, full}
use Rattle.table_layout.specs.Bounds.{most_conductors}
use Rattle.base.specs.If.{provided◌then◌else◌}
use Rattle.base.specs.Broken.{first_broken}
use Rattle.lex_line.specs.Words.{words, first_of}
use Rattle.lex_number.specs.Integer.{whole_of}
use Rattle.line_matrix.specs.declared.Matrix.{Matrix}
use Rattle.line_matrix.specs.Matrix.{is_wrong_bandwidth, is_wrong_row, with_bandwidth, with_row, data_line_of, data_rules, data_next}
use Rattle.law_grammar.specs.Way.Shape.{Row, SparseRow, LineSet}
use Rattle.law_grammar.specs.Way.Shape.LineSet.{diagonal_set, full_set, banded_set, sparse_set}

-- [Row] i, [Bandwidth] B, or a line of data by its content
pub data Entry : Type 0 where
  row_entry : ℕ → Entry
  bandwidth_entry : ℕ → Entry
  data_entry : List ℕ → Entry

-- ---- the set that lines write

-- "Numbers may run over lines": how many stand above the next [Row]
unfoldable pub numbers_above : List Entry → ℕ
numbers_above [] = 0
numbers_above (Entry.row_entry i ∷ entries) = 0
numbers_above (Entry.bandwidth_entry b ∷ entries) = numbers_above entries
numbers_above (Entry.data_entry content ∷ entries) = length (words content) + numbers_above entries

-- each [Row] with the numbers up to the next one
unfoldable pub rows_of : List Entry → List Row
rows_of [] = []
rows_of (Entry.row_entry i ∷ entries) = record { number = i; count = numbers_above entries } ∷ rows_of entries
rows_of (Entry.bandwidth_entry b ∷ entries) = rows_of entries
rows_of (Entry.data_entry content ∷ entries) = rows_of entries

-- the first [Bandwidth]
unfoldable pub width_of : List Entry → ℕ
width_of [] = 0
width_of (Entry.row_entry i ∷ entries) = width_of entries
width_of (Entry.bandwidth_entry b ∷ entries) = b
width_of (Entry.data_entry content ∷ entries) = width_of entries

-- "lines `column value`": the columns above the next [Row]
unfoldable pub columns_above : List Entry → List ℕ
columns_above [] = []
columns_above (Entry.row_entry i ∷ entries) = []
columns_above (Entry.bandwidth_entry b ∷ entries) = columns_above entries
columns_above (Entry.data_entry content ∷ entries) = (unwrap_or (whole_of (first_of (words content))) 0) ∷ columns_above entries

unfoldable pub sparse_rows_of : List Entry → List SparseRow
sparse_rows_of [] = []
sparse_rows_of (Entry.row_entry i ∷ entries) = record { number = i; columns = columns_above entries } ∷ sparse_rows_of entries
sparse_rows_of (Entry.bandwidth_entry b ∷ entries) = sparse_rows_of entries
sparse_rows_of (Entry.data_entry content ∷ entries) = sparse_rows_of entries

unfoldable pub set_of : ℕ → List Entry → LineSet
set_of form entries =
    provided eqb form diagonal then diagonal_set (numbers_above entries) else
    provided eqb form banded then banded_set (width_of entries) (rows_of entries) else
    provided eqb form sparse then sparse_set (sparse_rows_of entries) else full_set (rows_of entries)

-- ---- the reading

-- no line breaks a rule where it is met: 16 at a [Row] or [Bandwidth], and 12, 13, 14 or 17 at a line of data. They lead
-- from a matrix and a count of values to another
pub data Leads (last : Matrix) (end : ℕ) : Matrix → ℕ → List Entry → Type 0 where
  over : Leads last end last end []
  row :
      {m : Matrix} {values i : ℕ} {entries : List Entry} → is_wrong_row i m ≡ false → i ≤ most_conductors →
      Leads last end (with_row i m values) values entries → Leads last end m values (Entry.row_entry i ∷ entries)
  bandwidth :
      {m : Matrix} {values b : ℕ} {entries : List Entry} → is_wrong_bandwidth m ≡ false →
      Leads last end (with_bandwidth b m) values entries → Leads last end m values (Entry.bandwidth_entry b ∷ entries)
  numbers :
      {m : Matrix} {values : ℕ} {content : List ℕ} {entries : List Entry} →
      first_broken (data_rules (data_line_of m.form content) m values) ≡ 0 →
      Leads last end (data_next (data_line_of m.form content) m) (values + (data_line_of m.form content).numbers) entries →
      Leads last end m values (Entry.data_entry content ∷ entries)

-- the four forms
pub data IsForm : ℕ → Type 0 where
  is_diagonal : IsForm diagonal
  is_banded : IsForm banded
  is_sparse : IsForm sparse
  is_full : IsForm full
