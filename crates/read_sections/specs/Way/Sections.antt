-- What the walk over the lines behind [End ICM Family] promises: reading on gives the same result, and the sections,
-- matrices and values of these lines are staged.
-- Assumes nothing.
use Rattle.std.specs.Prelude.{ℕ, ◌≤◌, ◌<◌, ◌≡◌, false, List, length, drop, eqb}
use Rattle.base.specs.If.{provided◌then◌else◌}
use Rattle.lex_line.specs.Lines.{contents}
use Rattle.line_place.specs.Place.{is_row_or_bandwidth}
use Rattle.line_place.specs.Place as place
use Rattle.line_keyword.specs.declared.State.{State}
use Rattle.table_layout.specs.Codes.{matrix_kinds}
use Rattle.table_layout.specs.Layout.{section_width, matrix_width, value_width}
use Rattle.table_record.specs.Records.{section_words, matrix_words, value_words}
use Rattle.table_record.specs.Way.Stage.{Whole}
use Rattle.read_line.specs.Reading.{read_from}
use Rattle.read_line.specs.Way.Walk.{resume, Onward}
use Rattle.doc.specs.Lines.{plain, key_at, lines_at, gather}
use Rattle.doc.specs.Document.{Section, section_at}
use Rattle.doc.specs.Records.{section_records, matrix_records, matrices_of, values_of}
use Rattle.read_sections.specs.Way.Open.{reached_in, Stands}
use Rattle.read_sections.specs.declared.OpenSection.{OpenSection}
use Rattle.read_sections.specs.declared.SectionWalk.{SectionWalk}

-- the sections that are written behind the family
abbrev pub sections_behind : List ℕ → ℕ → ℕ → List Section
sections_behind t line at = gather section_at (lines_at t line at place.after)

-- each part is staged whole, if it fits
pub record SectionsStaged (t : List ℕ) (line at : ℕ) (table section_stage matrix_stage : List ℕ) : Type 0 where
  pub sections : Whole section_words section_width (section_records 0 (sections_behind t line at)) section_stage
  pub matrices : Whole matrix_words matrix_width (matrix_records 0 (matrices_of (sections_behind t line at))) matrix_stage
  pub values : Whole value_words value_width (values_of (matrices_of (sections_behind t line at))) table

-- ---- on the way

-- a place behind the family
pub record Late (p : ℕ) : Type 0 where
  pub from : place.after ≤ p
  pub upto : p ≤ place.done

-- the line that ends a matrix has a keyword, which is neither [Row] nor [Bandwidth]
pub record EndsKeyed (content : List ℕ) : Type 0 where
  pub keyed : key_at content ≡ plain → ⊥
  pub leaves : is_row_or_bandwidth (key_at content) ≡ false

-- where a line is read that is not part of a matrix, no matrix is open
unfoldable pub outside_matrix : ℕ → ℕ
outside_matrix p = provided eqb p place.matrix then place.section else p

-- p is the place by which it is told what is open
abbrev pub StandsAt : List Section → List ℕ → ℕ → ℕ → ℕ → State → OpenSection → List ℕ → List ℕ → List ℕ → Type 0
StandsAt ss t at line p s o table sections matrices = Stands ss o (reached_in p s line) (lines_at t line at s.place) table sections matrices

-- a line, or several, are read from offset `at` on
pub record Continues (t : List ℕ) (at line p : ℕ) (s : State) (o : OpenSection) (table sections matrices : List ℕ) (r : SectionWalk) (table' sections' matrices' : List ℕ) : Type 0 where
  pub same : resume t (record { rule = r.rule; at = r.at; line = r.line; state = r.state }) ≡ read_from line (contents (drop at t)) s
  pub further : r.rule ≡ 0 → at < r.at
  pub onward : r.rule ≡ 0 → Onward t r.at r.line r.state
  pub late : r.rule ≡ 0 → Late r.state.place
  pub kind : r.rule ≡ 0 → r.block.kind < matrix_kinds
  pub stands : r.rule ≡ 0 → (ss : List Section) → StandsAt ss t at line p s o table sections matrices →
      StandsAt ss t r.at r.line r.state.place r.state r.block table' sections' matrices'
  pub table_long : length table' ≡ length table
  pub sections_long : length sections' ≡ length sections
  pub matrices_long : length matrices' ≡ length matrices
