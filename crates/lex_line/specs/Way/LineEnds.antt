-- Where a line ends, as code finds it: the end of its content, its terminator, and the start of the next line.
-- Assumes nothing.
use Rattle.std.specs.Prelude.{ℕ, ◌+◌, ◌-◌, List, length, take, drop, get_or, ltb, eqb}
use Rattle.base.specs.If.{provided◌then◌else◌, both}
use Rattle.base.specs.Bytes.{line_feed, carriage_return, is_before, is_content}
use Rattle.base.specs.Runs.{run}
use Rattle.base.specs.Way.Class.{run_end}
use Rattle.lex_line.specs.Lines.{comment_byte, Said}
use Rattle.lex_line.specs.declared.Line.{Line}

-- the position after the LF at `end`, or `end` itself if the text ends there
unfoldable pub past_feed : List ℕ → ℕ → ℕ
past_feed t end = provided ltb end (length t) then end + 1 else end

-- for the line that starts at `at`: where its content ends, and where the next line starts
unfoldable pub line_at : ℕ → List ℕ → ℕ → Line
line_at comment t at = record { content = run_end (is_content comment) t at; next = past_feed t (run_end (is_before line_feed) t at) }

-- the content of the line that starts at `at`, and what that line says
abbrev pub content_at : List ℕ → ℕ → List ℕ
content_at t at = take ((line_at comment_byte t at).content - at) (drop at t)

abbrev pub said_at : List ℕ → ℕ → Said
said_at t at = record { size = run (is_before line_feed) (drop at t); content = content_at t at }

-- the length of the terminator at position i: 1 for LF, 2 for CR right before LF, 0 for none
unfoldable pub terminator_at : List ℕ → ℕ → ℕ
terminator_at t i =
    provided eqb (get_or t i 0) line_feed then 1 else
    provided both (eqb (get_or t i 0) carriage_return) (eqb (get_or t (i + 1) 0) line_feed) then 2 else 0
