-- Words as spans of a line, as code finds them: the first word at or after a position, the last word, and the first two
-- words with the count of words.
-- Assumes nothing.
use Rattle.std.specs.Prelude.{ℕ, ◌-◌, min, List, length, take, drop}
use Rattle.base.specs.Bytes.{is_blank, is_filled}
use Rattle.base.specs.Way.Class.{run_end}
use Rattle.lex_line.specs.declared.Span.{Span}
use Rattle.lex_line.specs.declared.FirstTwo.{FirstTwo}
use Rattle.lex_line.specs.Words.{back_run, last_end, words}

-- the first word at or after `from`; if there is none, it starts at the end of s
unfoldable pub word_span : List ℕ → ℕ → Span
word_span s from = record { start = run_end is_blank s from; end = run_end is_filled s (run_end is_blank s from) }

-- the last word of s; if there is none, it ends at 0
unfoldable pub last_word : List ℕ → Span
last_word s = record { start = last_end s - back_run is_filled s (last_end s); end = last_end s }

-- the first two words of a line, and how many words it has; a count of 3 means 3 or more
unfoldable pub first_two_of : List ℕ → FirstTwo
first_two_of s = record { count = min 3 (length (words s)); first = word_span s 0; second = word_span s (word_span s 0).end }

-- the bytes of a span
abbrev pub marked_by : List ℕ → Span → List ℕ
marked_by s w = take (w.end - w.start) (drop w.start s)
