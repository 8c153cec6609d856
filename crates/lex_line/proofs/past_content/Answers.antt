-- `lex_line::past_content` meets its contract: a line may have no content, and what surely is content need not be looked at again.
-- Assumes nothing.
use Rattle.lex_line.proofs.LineLaws.{content_none, content_stops, content_through}
use Rattle.lex_line.proofs.past_content.Goals as goal

pub returns-then-text-at : goal.returns-then-text-at
returns-then-text-at c = search content_none

pub returns-then-not-contains : goal.returns-then-not-contains
returns-then-not-contains c = search content_stops

pub returns : goal.returns
returns c = search content_through
