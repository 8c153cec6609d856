-- What the functions that find lines and words promise, in terms of the definitions of lines.
-- Assumes nothing.
use Rattle.std.specs.Prelude.{ℕ, ◌+◌, ◌-◌, ◌≤◌, ◌<◌, ◌≡◌, true, false, List, [], ◌∷◌, ◌++◌, length, take, drop, leb}
use Rattle.base.specs.If.{provided◌then◌else◌}
use Rattle.lex_line.specs.Words.{Word}
use Rattle.lex_line.specs.declared.Span.{Span}
use Rattle.lex_keyword.specs.Bracket.{bracket_of}
use Rattle.line_place.specs.Place.{before}
use Rattle.doc.specs.Lines.{Line, plain, key_of, lines_at, place_after, key_at, argument_in}
use Rattle.doc.specs.Holds.{Each}
use Rattle.doc.specs.declared.Found.{Found}
use Rattle.doc.specs.declared.Extent.{Extent}
use Rattle.doc.specs.declared.Cursor.{Cursor}

-- the offset and size of a word
unfoldable pub extent_of : Word → Extent
extent_of w = record { start = w.start; size = length w.text }

-- the offset and size of the word that a span marks, in a part of the text that starts at `offset`; no word is 0 0
unfoldable pub extent_at : List ℕ → ℕ → Span → Extent
extent_at s offset word =
    provided leb (length s) word.start
    then record { start = 0; size = 0 }
    else record { start = offset + word.start; size = word.end - word.start }

-- the content of the line that was found, and the line itself, read in the place p
abbrev pub content_in : List ℕ → Found → List ℕ
content_in t f = take (f.end - f.at) (drop f.at t)

abbrev pub line_in : List ℕ → Found → ℕ → Line
line_in t f p = record { line = f.line; at = f.at; place = p; content = content_in t f }

-- the lines after it
abbrev pub lines_behind : List ℕ → Found → ℕ → List Line
lines_behind t f p = lines_at t (f.line + 1) f.next (place_after p (content_in t f))

-- the cursor at the first line, and behind a line that was found from a cursor on
unfoldable pub cursor_start : Cursor
cursor_start = record { at = 0; line = 1; place = before }

unfoldable pub cursor_past : List ℕ → Cursor → Found → Cursor
cursor_past t c f = record { at = f.next; line = f.line + 1; place = place_after c.place (content_in t f) }

-- a line that was found lies within the text, and there are no more lines than bytes
pub record Located (t : List ℕ) (f : Found) : Type 0 where
  pub ordered : f.at ≤ f.end
  pub within : f.end ≤ length t
  pub further : f.at < f.next
  pub next_within : f.next ≤ length t
  pub counted : f.line ≤ f.at + 1
  pub key_is : f.key ≡ key_at (content_in t f)
  pub argument_is : f.argument ≡ argument_in (bracket_of (content_in t f))

-- the first significant line from offset `at` on
pub record FindsLine (t : List ℕ) (n at : ℕ) (f : Found) : Type 0 where
  pub located : f.there ≡ true → Located t f
  pub behind : f.there ≡ true → at ≤ f.at
  pub same_there : f.there ≡ true → (p : ℕ) → lines_at t n at p ≡ line_in t f p ∷ lines_behind t f p
  pub same_none : f.there ≡ false → (p : ℕ) → lines_at t n at p ≡ []

-- ---- lines without a keyword

-- a line without a keyword in the place p
pub record IsPlain (p : ℕ) (l : Line) : Type 0 where
  pub place_is : l.place ≡ p
  pub key_is : key_of l ≡ plain

-- these lines are first some without a keyword, all in place p, and then the rest
pub record Plainly (p : ℕ) (ls rest : List Line) : Type 0 where
  pub before : List Line
  pub all : ls ≡ before ++ rest
  pub each : Each (IsPlain p) before
