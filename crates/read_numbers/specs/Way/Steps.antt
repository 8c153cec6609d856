-- What the functions that stage one line promise to each other.
-- Assumes nothing.
use Rattle.std.specs.Prelude.{ℕ, ◌+◌, ◌≤◌, ◌≡◌, Bool, true, false, List, ◌++◌, length, eqb}
use Rattle.base.specs.If.{provided◌then◌else◌, both}
use Rattle.table_record.specs.declared.Value.{Value}
use Rattle.lex_line.specs.Way.LineEnds.{line_at, content_at}
use Rattle.lex_line.specs.Words.{words}
use Rattle.lex_line.specs.Lines.{comment_byte}
use Rattle.line_matrix.specs.Matrix.{are_formed, are_bounded}
use Rattle.doc.specs.Document.{numbers_at}
use Rattle.read_numbers.specs.Way.Numbers.{row_after}
use Rattle.read_numbers.specs.Way.Staging.{HeldValues}
use Rattle.read_numbers.specs.declared.Cursor.{Cursor}
use Rattle.read_numbers.specs.declared.Numbers.{Numbers}
use Rattle.read_numbers.specs.declared.Pair.{Pair}

-- the result of numbers that are stored: the next number goes where the cursor is
unfoldable pub numbers_result : Bool → Cursor → ℕ → Numbers
numbers_result staged c end = record { staged = staged; count = c.count; row = c.row; column = c.column; end = end }

-- all words are numbers within their bounds and are stored after the values, the first of them at this row and column
pub record Stored (form : ℕ) (ws : List (List ℕ)) (table : List ℕ) (values row column : ℕ) (table' : List ℕ) (r : Numbers) : Type 0 where
  pub counted : r.count ≡ length ws
  pub formed : are_formed ws ≡ true
  pub bounded : are_bounded ws ≡ true
  pub held : (whole rest : List Value) → HeldValues whole table values (numbers_at form row column ws ++ rest) → HeldValues whole table' (values + r.count) rest
  pub row_is : r.row ≡ row_after form row (length ws)
  pub column_is : r.column ≡ column + length ws
  pub row_few : r.row ≤ row + r.count

-- the numbers from offset `from` to the end of the line
pub record Stores (form : ℕ) (t : List ℕ) (from : ℕ) (table : List ℕ) (values row column : ℕ) (table' : List ℕ) (r : Numbers) : Type 0 where
  pub long : length table' ≡ length table
  pub ends : r.staged ≡ true → r.end ≡ (line_at comment_byte t from).content
  pub told : r.staged ≡ true → Stored form (words (content_at t from)) table values row column table' r
  pub broken : r.staged ≡ false → both (are_formed (words (content_at t from))) (are_bounded (words (content_at t from))) ≡ false

-- a column and the numbers after it: staged if there is exactly one number
unfoldable pub pair_of : ℕ → Numbers → Pair
pair_of column n =
    provided both n.staged (eqb n.count 1)
    then record { staged = true; column = column; end = n.end }
    else record { staged = false; column = 0; end = n.end }
