-- `lex_line::fast::past_short` meets its contract: the line at hand starts where the run of bytes before an LF starts.
-- Assumes nothing.
use Rattle.lex_line.proofs.ShortLaws.{passes_to}
use Rattle.lex_line.proofs.fast.past_short.Goals as goal

pub returns : goal.returns
returns c = search passes_to
