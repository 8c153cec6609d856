-- What is promised of runs of plain lines inside a matrix: if the lines of a matrix are read up to the start of a run,
-- then after the run they are read up to its end. A line of data that ends a run breaks a rule.
-- Assumes nothing.
use Rattle.std.specs.Prelude.{ℕ, ◌+◌, ◌≤◌, ◌<◌, ◌≡◌, Bool, true, false, not, List, length, eqb}
use Rattle.table_layout.specs.Codes.{diagonal, sparse}
use Rattle.table_layout.specs.Bounds.{most_values}
use Rattle.base.specs.If.{both}
use Rattle.lex_line.specs.Way.LineEnds.{line_at, content_at}
use Rattle.lex_line.specs.Lines.{comment_byte}
use Rattle.line_place.specs.Place as place
use Rattle.line_matrix.specs.Matrix.{with_column}
use Rattle.line_matrix.specs.declared.Matrix.{Matrix}
use Rattle.read_line.specs.Way.Walk.{ResumesPart, HoldsPart, with_matrix}
use Rattle.read_numbers.specs.declared.Staging.{Staging}
use Rattle.read_numbers.specs.Way.Staging.{BoundedStaging, moved_to, named_to}
use Rattle.read_matrix.specs.declared.Data.{Data}
use Rattle.read_matrix.specs.declared.BodyWalk.{BodyWalk}
use Rattle.read_matrix.specs.declared.TakenNumbers.{TakenNumbers}
use Rattle.read_matrix.specs.declared.TakenPair.{TakenPair}
use Rattle.read_matrix.specs.Way.Body.{IsData, BrokenLine, Takes, Left}

-- how far the lines of a matrix are read, no rule being broken
pub record Gone (t : List ℕ) (at line : ℕ) (m : Matrix) (values : ℕ) (here line_here : ℕ) (part : Data) : Type 0 where
  pub whole : part.rule ≡ 0
  pub crossed : ResumesPart t at line (HoldsPart place.matrix (with_matrix m values)) (with_matrix part.matrix part.values) part.rule here line_here
  pub form : part.matrix.form ≡ m.form
  pub few : part.values ≤ most_values
  pub bounded : BoundedStaging part.staging part.values

-- the same, for the numbers of these lines
abbrev pub LeftPart : List ℕ → ℕ → ℕ → ℕ → List ℕ → ℕ → ℕ → ℕ → Data → List ℕ → Type 0
LeftPart t n₀ at₀ form table₀ values₀ n at part table = Left t n₀ at₀ form table₀ values₀ n at table part.values part.staging

-- a run of lines: if the lines were read up to its start, they are now read up to its end. Its table is right unless it
-- ends at a line of data
pub record ResumesRun (t : List ℕ) (at line : ℕ) (part : Data) (table : List ℕ) (r : BodyWalk) (table' : List ℕ) : Type 0 where
  pub gone : (at₀ line₀ : ℕ) (m : Matrix) (values : ℕ) → Gone t at₀ line₀ m values at line part → Gone t at₀ line₀ m values r.at r.line r.part
  pub left : (r.at < length t → IsData (content_at t r.at) → ⊥) → (n₀ at₀ : ℕ) (table₀ : List ℕ) (values₀ : ℕ) →
      LeftPart t n₀ at₀ part.matrix.form table₀ values₀ line at part table →
      LeftPart t n₀ at₀ part.matrix.form table₀ values₀ r.line r.at r.part table'
  pub broken : r.at < length t → BrokenLine (content_at t r.at) r.part.matrix r.part.values
  pub onward : at ≤ r.at
  pub long : length table' ≡ length table

-- a data line is allowed here: a form with rows has had a [Row]
unfoldable pub is_ordered : Matrix → Bool
is_ordered m = not (both (not (eqb m.form diagonal)) (eqb m.rows.row 0))

-- what a run requires: there are few enough values to count one line more
pub record Runs (t : List ℕ) (at line : ℕ) (part : Data) : Type 0 where
  pub within : at ≤ length t
  pub counted : line ≤ at + 1
  pub bounded : BoundedStaging part.staging part.values
  pub few : part.values ≤ most_values
  pub ordered : is_ordered part.matrix ≡ true

-- ---- lines of numbers

-- the result of such a run, by what it changes
unfoldable pub numbers_part : Data → ℕ → ℕ → ℕ → Data
numbers_part part values row column =
    record {
      taken = true;
      rule = 0;
      matrix = part.matrix;
      values = values;
      staging = record { row = row; column = column; bandwidth = part.staging.bandwidth; greatest = part.staging.greatest };
    }

-- the line at offset `here` as one of a run of numbers, whatever the matrix and the staging: it is taken, or not part
-- of the run
pub record TakesNumbers (t : List ℕ) (here form values row column : ℕ) (table : List ℕ) (r : TakenNumbers) (table' : List ℕ) : Type 0 where
  pub long : length table' ≡ length table
  pub kept : r.taken ≡ false → (IsData (content_at t here) → ⊥) → table' ≡ table
  pub broken : r.taken ≡ false → (m : Matrix) → m.form ≡ form → BrokenLine (content_at t here) m values
  pub few : r.taken ≡ true → r.values ≤ most_values
  pub onward : r.taken ≡ true → r.next ≡ (line_at comment_byte t here).next
  pub takes : r.taken ≡ true → (m : Matrix) → m.form ≡ form → is_ordered m ≡ true → (a : Staging) → a.row ≡ row → a.column ≡ column →
      Takes (content_at t here) m values a table
      (record { taken = true; rule = 0; matrix = m; values = r.values; staging = moved_to r.row r.column a }) table'

-- ---- lines of a column and a value

-- the matrix and the staging, by what such a run changes
unfoldable pub pairs_matrix : Matrix → ℕ → ℕ → Bool → Matrix
pairs_matrix m least greatest fits =
    record {
      form = m.form;
      band = m.band;
      first = m.first;
      rows =
          record {
            row = m.rows.row;
            above = m.rows.above;
            from = m.rows.from;
            least = least;
            greatest = greatest;
            fits = fits;
          };
    }

unfoldable pub pairs_part : Data → ℕ → Matrix → ℕ → Data
pairs_part part values matrix named =
    record {
      taken = true;
      rule = 0;
      matrix = matrix;
      values = values;
      staging =
          record {
            row = part.staging.row;
            column = part.staging.column;
            bandwidth = part.staging.bandwidth;
            greatest = named;
          };
    }

pub record TakesPair (t : List ℕ) (here values row : ℕ) (table : List ℕ) (r : TakenPair) (table' : List ℕ) : Type 0 where
  pub long : length table' ≡ length table
  pub kept : r.taken ≡ false → (IsData (content_at t here) → ⊥) → table' ≡ table
  pub broken : r.taken ≡ false → (m : Matrix) → m.form ≡ sparse → BrokenLine (content_at t here) m values
  pub few : r.taken ≡ true → values < most_values
  pub narrow : r.taken ≡ true → r.column < 4_294_967_296
  pub onward : r.taken ≡ true → r.next ≡ (line_at comment_byte t here).next
  pub takes : r.taken ≡ true → (m : Matrix) → m.form ≡ sparse → is_ordered m ≡ true → (a : Staging) → BoundedStaging a values → a.row ≡ row →
      Takes (content_at t here) m values a table
      (record { taken = true; rule = 0; matrix = with_column r.column m; values = values + 1; staging = named_to r.column a }) table'
