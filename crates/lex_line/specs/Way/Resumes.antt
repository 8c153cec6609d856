-- What the check of one line promises of rules 2 to 4: how the result of all lines follows from it and the later lines.
-- Assumes nothing.
use Rattle.std.specs.Prelude.{ℕ, ◌+◌, ◌<◌, ◌≤◌, ◌≡◌, List, length, drop}
use Rattle.lex_line.specs.Lines.{lines}
use Rattle.lex_line.specs.ByteRules.{refused_or, lines_rule}

-- the lines from `at` on are refused with `rule` at their first line; if `rule` is 0, their result is that of the lines
-- from `next` on
pub record ResumesAfterLine (t : List ℕ) (at rule next : ℕ) : Type 0 where
  pub same : (n : ℕ) → lines_rule n (lines (drop at t)) ≡ refused_or rule n (lines_rule (n + 1) (lines (drop next t)))
  pub on : rule ≡ 0 → at < next
  pub within : next ≤ length t
