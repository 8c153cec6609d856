-- `lex_line::ended_at` meets its contract: the LF found from the end of the content is the line's.
-- Assumes nothing.
use Rattle.lex_line.proofs.LineLaws.{line_ended, line_unended}
use Rattle.lex_line.proofs.ended_at.Goals as goal

pub returns-then-end-text : goal.returns-then-end-text
returns-then-end-text c = search line_ended

pub returns-else-end-text : goal.returns-else-end-text
returns-else-end-text c = search line_unended
