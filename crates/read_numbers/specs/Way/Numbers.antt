-- What the functions promise that stage one number: it is stored behind the values before it, if there is room.
-- Assumes nothing.
use Rattle.std.specs.Prelude.{ℕ, ◌+◌, ◌*◌, ◌≤◌, ◌<◌, ◌≡◌, List, length, eqb}
use Rattle.base.specs.If.{provided◌then◌else◌}
use Rattle.lex_number.specs.Number.{word_in, Number}
use Rattle.table_layout.specs.Codes.{diagonal}
use Rattle.table_layout.specs.Layout.{value_width}
use Rattle.table_record.specs.Records.{value_words}
use Rattle.table_record.specs.Way.Stage.{put_at}
use Rattle.table_record.specs.declared.Value.{Value}
use Rattle.doc.specs.Document.{next_row}
use Rattle.read_numbers.specs.declared.Cursor.{Cursor}

-- an integer has at most 9 digits
abbrev pub most_given : ℕ
most_given = 1_000_000_000

-- a number at a row and a column
abbrev pub value_of : ℕ → ℕ → Number → Value
value_of row column number = record { row = row; column = column; word = word_in number }

-- the row after n numbers
abbrev pub row_after : ℕ → ℕ → ℕ → ℕ
row_after form r n = provided eqb form diagonal then r + n else r

-- where value n goes in a table of this size; where there is no room, the place is that of the last value that had some
pub record Points (size n place : ℕ) : Type 0 where
  pub few : place ≤ value_width * n
  pub exact : place + value_width ≤ size → place ≡ value_width * n

-- a value is stored at a place, if there is room
pub record PutsValue (place : ℕ) (v : Value) (table : List ℕ) (next : ℕ) (table' : List ℕ) : Type 0 where
  pub long : length table' ≡ length table
  pub stored : (n : ℕ) → Points (length table) n place → table' ≡ put_at (value_width * n) (value_words v) table
  pub points : (n : ℕ) → Points (length table) n place → Points (length table) (n + 1) next

-- one more can be added to each
pub record Movable (c : Cursor) : Type 0 where
  pub row_few : c.row < 18_446_744_073_709_551_615
  pub column_few : c.column < 18_446_744_073_709_551_615
  pub count_few : c.count < 18_446_744_073_709_551_615

-- a number is stored where the cursor is
pub record PutsNumber (form : ℕ) (number : Number) (table : List ℕ) (c r : Cursor) (table' : List ℕ) : Type 0 where
  pub row_is : r.row ≡ next_row form c.row
  pub column_is : r.column ≡ c.column + 1
  pub count_is : r.count ≡ c.count + 1
  pub puts : PutsValue c.place (value_of c.row c.column number) table r.place table'

-- the cursor behind a number that is left out
abbrev pub passed_by : ℕ → Cursor → Cursor
passed_by form c = record { row = next_row form c.row; column = c.column + 1; count = c.count + 1; place = c.place }
