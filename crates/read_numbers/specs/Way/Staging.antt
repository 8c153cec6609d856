-- What one line adds to the staging of a matrix, in the words of the document: whatever lines come after it, staging
-- them next gives what the line and they give together.
-- Assumes nothing.
use Rattle.std.specs.Prelude.{ℕ, ◌+◌, ◌≤◌, max, ◌≡◌, true, false, List, ◌∷◌, ◌++◌, length, unwrap_or}
use Rattle.base.specs.If.{both}
use Rattle.table_layout.specs.Layout.{value_width}
use Rattle.table_layout.specs.Codes.{sparse}
use Rattle.table_record.specs.Records.{value_words}
use Rattle.table_record.specs.Way.Stage.{Held}
use Rattle.table_record.specs.declared.Value.{Value}
use Rattle.lex_line.specs.Way.LineEnds.{line_at, content_at}
use Rattle.lex_line.specs.Lines.{comment_byte}
use Rattle.line_matrix.specs.Matrix.{data_line_of}
use Rattle.line_matrix.specs.declared.DataLine.{DataLine}
use Rattle.doc.specs.Lines.{Line, plain, key_of}
use Rattle.doc.specs.Document.{values_from, bandwidth_in, greatest_in}
use Rattle.read_numbers.specs.Way.Numbers.{most_given}
use Rattle.read_numbers.specs.declared.Staging.{Staging}
use Rattle.read_numbers.specs.declared.Numbers.{Numbers}
use Rattle.read_numbers.specs.declared.Pair.{Pair}

-- the values of a whole are staged at the front of a table: the first k of them, and these are left
abbrev pub HeldValues : List Value → List ℕ → ℕ → List Value → Type 0
HeldValues whole table k left = Held value_words value_width whole table k left

-- rows and columns come from integers and rise by one only with a value: they are so small that no sum wraps
pub record BoundedStaging (n : Staging) (values : ℕ) : Type 0 where
  pub row : n.row ≤ most_given + values
  pub column : n.column ≤ most_given + values

-- the line l, read after `values` values with the staging a, leads to table', values' and the staging b
pub record Adds (form : ℕ) (l : Line) (table : List ℕ) (values : ℕ) (a : Staging) (table' : List ℕ) (values' : ℕ) (b : Staging) : Type 0 where
  pub held : (ls : List Line) (whole rest : List Value) →
      HeldValues whole table values (values_from form a.row a.column (l ∷ ls) ++ rest) →
      HeldValues whole table' values' (values_from form b.row b.column ls ++ rest)
  pub bandwidth : (ls : List Line) → unwrap_or b.bandwidth (bandwidth_in ls) ≡ unwrap_or a.bandwidth (bandwidth_in (l ∷ ls))
  pub greatest : (ls : List Line) → max b.greatest (greatest_in form ls) ≡ max a.greatest (greatest_in form (l ∷ ls))
  pub bounded : BoundedStaging b values'

-- ---- one line, whatever the staging

-- a line of data that cannot be staged breaks a rule: it has not the right words, or one is no number within its bounds
abbrev pub BrokenData : DataLine → Type 0
BrokenData l = both l.right (both l.formed l.bounded) ≡ false

-- the same staging, with the next number at another row and column
abbrev pub moved_to : ℕ → ℕ → Staging → Staging
moved_to row column a = record { row = row; column = column; bandwidth = a.bandwidth; greatest = a.greatest }

-- the line at `here` is a line of numbers, the first of them at this row and column; `adds` holds for any such staging
pub record StagesNumbers (form : ℕ) (t : List ℕ) (here : ℕ) (table : List ℕ) (values row column : ℕ) (table' : List ℕ) (r : Numbers) : Type 0 where
  pub long : length table' ≡ length table
  pub ends : r.staged ≡ true → r.end ≡ (line_at comment_byte t here).content
  pub line_is : r.staged ≡ true →
      record { numbers = r.count; column = 0; right = true; formed = true; bounded = true } ≡ data_line_of form (content_at t here)
  pub adds : r.staged ≡ true → (a : Staging) → a.row ≡ row → a.column ≡ column → (l : Line) → l.content ≡ content_at t here →
      key_of l ≡ plain → Adds form l table values a table' (values + r.count) (moved_to r.row r.column a)
  pub broken : r.staged ≡ false → BrokenData (data_line_of form (content_at t here))

-- the same staging, with one more column named
abbrev pub named_to : ℕ → Staging → Staging
named_to column a = record { row = a.row; column = a.column; bandwidth = a.bandwidth; greatest = max a.greatest column }

-- the line at `here` is one of a Sparse_matrix, in this row; `adds` holds for any such staging
pub record StagesPair (t : List ℕ) (here : ℕ) (table : List ℕ) (values row : ℕ) (table' : List ℕ) (r : Pair) : Type 0 where
  pub long : length table' ≡ length table
  pub ends : r.staged ≡ true → r.end ≡ (line_at comment_byte t here).content
  pub line_is : r.staged ≡ true →
      record { numbers = 1; column = r.column; right = true; formed = true; bounded = true } ≡ data_line_of sparse (content_at t here)
  pub adds : r.staged ≡ true → (a : Staging) → BoundedStaging a values → a.row ≡ row → (l : Line) → l.content ≡ content_at t here →
      key_of l ≡ plain → Adds sparse l table values a table' (values + 1) (named_to r.column a)
  pub broken : r.staged ≡ false → BrokenData (data_line_of sparse (content_at t here))
