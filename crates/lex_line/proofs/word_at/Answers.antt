-- `lex_line::word_at` meets its contract: the blanks, then what is not blank.
-- Assumes nothing.
use Rattle.lex_line.specs.Way.Spans.{word_span}
use Rattle.lex_line.proofs.word_at.Goals as goal

pub returns : goal.returns
unfolding word_span
returns c = cc
