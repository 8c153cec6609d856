-- The usual forms of lines in a path: `Section Mult=n name` with single blanks, and `Fork` and `Endfork` alone.
-- Assumes nothing.
use Rattle.std.specs.Prelude.{ℕ, ◌+◌, ◌-◌, ◌≤◌, ◌<◌, ◌≡◌, List, ◌++◌, length, drop}
use Rattle.base.specs.Bytes.{bytes}
use Rattle.lex_line.specs.Way.Spans.{word_span}
use Rattle.line_path.specs.Path.{says_fork, says_endfork}

-- the bytes before the amount
abbrev pub mult_front : List ℕ
mult_front = bytes "Section Mult="

pub record OpensMult (content : List ℕ) : Type 0 where
  pub front : content ≡ mult_front ++ drop 13 content
  pub long : 13 ≤ length content

-- two words with one blank between them and no other blank; the first ends at r
pub record Paired (s : List ℕ) (r : ℕ) : Type 0 where
  pub some : 0 < r
  pub inside : r + 1 < length s
  pub first : word_span s 0 ≡ record { start = 0; end = r }
  pub second : word_span s r ≡ record { start = r + 1; end = length s }

-- `Section Mult=n name`: the amount ends at `end`; after one blank the name goes to the end of the line
pub record UsualSection (content : List ℕ) (end : ℕ) : Type 0 where
  pub opens : OpensMult content
  pub above : 13 < end
  pub pair : Paired (drop 13 content) (end - 13)

-- a line of one word
pub data UsualFork : List ℕ → ℕ → Type 0 where
  forks : UsualFork (bytes "Fork") says_fork
  ends : UsualFork (bytes "Endfork") says_endfork
