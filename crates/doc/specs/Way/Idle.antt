-- What the functions that skip lines which change nothing promise of the lines themselves.
-- Assumes nothing.
use Rattle.std.specs.Prelude.{ℕ, ◌≡◌, false, List}
use Rattle.lex_line.specs.Lines.{is_blank_line}
use Rattle.lex_line.specs.Words.{words, first_of}
use Rattle.lex_keyword.specs.Bracket.{bracket_of}
use Rattle.lex_keyword.specs.declared.Bracket.TheVariants.{Plain}
use Rattle.line_place.specs.Place as place
use Rattle.line_argument.specs.Argument.{is_reserved}
use Rattle.read_line.specs.Way.Walk.{ResumesIdle}
use Rattle.lex_line.specs.declared.fast.Past.{Past}
use Rattle.doc.specs.Lines.{lines_at}
use Rattle.doc.specs.Way.Found.{Plainly}

-- a line that changes nothing in the place p: a blank line, or a good line of the model list
pub record IsIdle (content : List ℕ) (p : ℕ) : Type 0 where
  pub listed : is_blank_line content ≡ false → p ≡ place.list
  pub plain : is_blank_line content ≡ false → bracket_of content ≡ Plain
  pub free : is_blank_line content ≡ false → is_reserved (first_of (words content)) ≡ false

-- such lines one after another: good lines of the model list there, elsewhere blank lines and comments
pub record SkipsIdle (t : List ℕ) (at line p : ℕ) (r : Past) : Type 0 where
  pub resumes : ResumesIdle t at line p r.at r.line
  pub listed : p ≡ place.list → Plainly place.list (lines_at t line at place.list) (lines_at t r.line r.at place.list)
  pub blank : (p ≡ place.list → ⊥) → lines_at t line at p ≡ lines_at t r.line r.at p
