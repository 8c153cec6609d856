-- Many lines checked at once: how many LFs some bytes have, and skipping lines that break none of the rules 2 to 4.
-- Assumes nothing.
use Rattle.std.specs.Prelude.{ℕ, ◌+◌, ◌≤◌, ◌≡◌, Bool, List, [], ◌∷◌, length, drop, eqb}
use Rattle.base.specs.If.{provided◌then◌else◌, either}
use Rattle.base.specs.Bytes.{line_feed, is_printed}
use Rattle.lex_line.specs.Lines.{lines}
use Rattle.lex_line.specs.ByteRules.{lines_rule}

-- 1 for an LF, 0 for any other byte; and how many LFs a list of bytes has
unfoldable pub line_feed_of : ℕ → ℕ
line_feed_of b = provided eqb b line_feed then 1 else 0

unfoldable pub line_feeds : List ℕ → ℕ
line_feeds [] = 0
line_feeds (b ∷ s) = line_feed_of b + line_feeds s

-- a byte that a line may contain, or an LF
unfoldable pub is_line_byte : ℕ → Bool
is_line_byte b = either (eqb b line_feed) (is_printed b)

-- the check of the lines from `at` (number `line`) may resume at `next` (number `line_there`) with the same result,
-- because the lines between break nothing
pub record ResumesLines (t : List ℕ) (at line next line_there : ℕ) : Type 0 where
  pub same : lines_rule line_there (lines (drop next t)) ≡ lines_rule line (lines (drop at t))
  pub onward : at ≤ next
  pub within : next ≤ length t
  pub counted : line_there + at ≤ line + next
