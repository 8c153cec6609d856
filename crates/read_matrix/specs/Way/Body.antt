-- What is promised of the lines of a matrix, which are judged and staged in one pass: how each line changes its part of
-- the state, as elsewhere in the reading, and what it adds to the staging.
-- Assumes nothing.
use Rattle.std.specs.Prelude.{ℕ, ◌≤◌, ◌<◌, max, ◌≡◌, true, false, List, ◌++◌, length, eqb, unwrap_or, None, Some}
use Rattle.std.specs.Option.{option_or}
use Rattle.base.specs.If.{provided◌then◌else◌}
use Rattle.lex_line.specs.Lines.{is_blank_line}
use Rattle.lex_line.specs.Way.LineEnds.{content_at}
use Rattle.lex_number.specs.Integer.{whole_of}
use Rattle.lex_keyword.specs.Names.{row}
use Rattle.lex_keyword.specs.Bracket.{bracket_of}
use Rattle.lex_keyword.specs.declared.Bracket.TheVariants.{Plain, Keyword}
use Rattle.table_layout.specs.Bounds.{most_values}
use Rattle.table_record.specs.declared.Value.{Value}
use Rattle.line_place.specs.Place.{is_row_or_bandwidth}
use Rattle.line_place.specs.Place as place
use Rattle.line_matrix.specs.Matrix.{data_line_of}
use Rattle.line_matrix.specs.declared.Matrix.{Matrix}
use Rattle.line_matrix.specs.Way.Rule.{data_rule}
use Rattle.read_line.specs.Reading.{line_result}
use Rattle.read_line.specs.Way.Steps.{keyword_step}
use Rattle.read_line.specs.Way.Walk.{ResumesPart, HoldsPart, Decides, Opens, with_matrix}
use Rattle.doc.specs.Lines.{Line, lines_at, up_to}
use Rattle.doc.specs.Document.{in_matrix, values_from, bandwidth_in, greatest_in}
use Rattle.read_numbers.specs.Way.Staging.{HeldValues, BoundedStaging, Adds}
use Rattle.read_numbers.specs.declared.Staging.{Staging}
use Rattle.read_matrix.specs.declared.Data.{Data}
use Rattle.read_matrix.specs.declared.BodyWalk.{BodyWalk}

-- the lines of a matrix, from the line below its keyword on
abbrev pub body_lines : List ℕ → ℕ → ℕ → List Line
body_lines t n at = up_to in_matrix (lines_at t n at place.matrix)

-- before the first of them
abbrev pub new_staging : Staging
new_staging = record { row = 1; column = 1; bandwidth = None; greatest = 0 }

-- [Row] i: the next number belongs at (i, i); of several [Bandwidth] the first counts
unfoldable pub keyword_staging : ℕ → ℕ → Staging → Staging
keyword_staging key value a =
    provided eqb key row
    then record { row = value; column = value; bandwidth = a.bandwidth; greatest = max a.greatest value }
    else record { row = a.row; column = a.column; bandwidth = option_or a.bandwidth (Some value); greatest = a.greatest }

-- ---- one line

-- [Row] or [Bandwidth], with its argument
pub record TakesKeyword (key : ℕ) (argument : List ℕ) (m : Matrix) (values : ℕ) (a : Staging) (r : Data) : Type 0 where
  pub taken : r.taken ≡ true
  pub decides : Decides place.matrix (with_matrix m values) (keyword_step key argument) r.rule (with_matrix r.matrix r.values)
  pub form : r.matrix.form ≡ m.form
  pub same : r.values ≡ values
  pub staging : r.rule ≡ 0 → r.staging ≡ keyword_staging key (unwrap_or (whole_of argument) 0) a
  pub bounded : BoundedStaging r.staging values

-- a line of data: it has words, and no bracket at its front
abbrev pub IsData : List ℕ → Type 0
IsData content = (is_blank_line content ≡ false) × (bracket_of content ≡ Plain)

-- if it is a line of data, it breaks a rule
abbrev pub BrokenLine : List ℕ → Matrix → ℕ → Type 0
BrokenLine content m values = IsData content → data_rule (data_line_of m.form content) m values ≡ 0 → ⊥

-- what a line with this content adds to the staging; a blank line adds nothing
pub record Extends (content : List ℕ) (form : ℕ) (table : List ℕ) (values : ℕ) (a : Staging) (table' : List ℕ) (values' : ℕ) (b : Staging) : Type 0 where
  pub blank : is_blank_line content ≡ true → (table' ≡ table) × (values' ≡ values) × (b ≡ a)
  pub filled : is_blank_line content ≡ false → (l : Line) → l.place ≡ place.matrix → l.content ≡ content →
      (in_matrix l ≡ true) × Adds form l table values a table' values' b

-- a line with this content is not read here: it has a bracket, and is neither [Row] nor [Bandwidth]
pub record Ends (content : List ℕ) : Type 0 where
  pub filled : is_blank_line content ≡ false
  pub opens : Opens content
  pub leaves : (k start : ℕ) → bracket_of content ≡ Keyword k start → is_row_or_bandwidth k ≡ false

-- one line, given by its content
pub record Takes (content : List ℕ) (m : Matrix) (values : ℕ) (a : Staging) (table : List ℕ) (r : Data) (table' : List ℕ) : Type 0 where
  pub decides : r.taken ≡ true → Decides place.matrix (with_matrix m values) (line_result content) r.rule (with_matrix r.matrix r.values)
  pub ends : r.taken ≡ false → Ends content
  pub form : r.matrix.form ≡ m.form
  pub few : values ≤ most_values → r.values ≤ most_values
  pub bounded : BoundedStaging r.staging r.values
  pub extends : r.taken ≡ true → r.rule ≡ 0 → Extends content m.form table values a table' r.values r.staging

-- a line that stores no number, whatever the table: a line of data only if it breaks a rule
pub record TakesAlone (content : List ℕ) (m : Matrix) (values : ℕ) (a : Staging) (r : Data) : Type 0 where
  pub takes : (table : List ℕ) → Takes content m values a table r table
  pub other : r.rule ≡ 0 → IsData content → ⊥

-- ---- lines one after another

-- staging the lines that are left of a matrix, after those staged already, gives what all of them give
pub record Left (t : List ℕ) (n₀ at₀ form : ℕ) (table₀ : List ℕ) (values₀ n at : ℕ) (table : List ℕ) (values : ℕ) (a : Staging) : Type 0 where
  pub held : (whole rest : List Value) → HeldValues whole table₀ values₀ (values_from form 1 1 (body_lines t n₀ at₀) ++ rest) →
      HeldValues whole table values (values_from form a.row a.column (body_lines t n at) ++ rest)
  pub bandwidth : unwrap_or a.bandwidth (bandwidth_in (body_lines t n at)) ≡ bandwidth_in (body_lines t n₀ at₀)
  pub greatest : max a.greatest (greatest_in form (body_lines t n at)) ≡ greatest_in form (body_lines t n₀ at₀)
  -- what follows the lines that are left follows all of them
  pub rest : (ls : List Line) → lines_at t n at place.matrix ≡ body_lines t n at ++ ls → lines_at t n₀ at₀ place.matrix ≡ body_lines t n₀ at₀ ++ ls

-- the lines of a matrix up to the keyword that ends it, or up to the first line that is not taken here
pub record ResumesMatrix (t : List ℕ) (at line : ℕ) (m : Matrix) (values : ℕ) (table : List ℕ) (w : BodyWalk) (table' : List ℕ) : Type 0 where
  pub crossed : ResumesPart t at line (HoldsPart place.matrix (with_matrix m values)) (with_matrix w.part.matrix w.part.values) w.part.rule w.at w.line
  pub long : length table' ≡ length table
  pub ends : w.part.rule ≡ 0 → w.at < length t → Ends (content_at t w.at)
  pub left : w.part.rule ≡ 0 → Left t line at m.form table values w.line w.at table' w.part.values w.part.staging
