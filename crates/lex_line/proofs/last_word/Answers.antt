-- `lex_line::last_word` meets its contract: the blanks at the end, then what is not blank before them.
-- Assumes nothing.
use Rattle.lex_line.specs.Words.{last_end}
use Rattle.lex_line.specs.Way.Spans.{last_word}
use Rattle.lex_line.proofs.last_word.Goals as goal

pub returns : goal.returns
unfolding last_word last_end
returns c = cc
