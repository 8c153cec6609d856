-- `lex_line::fast::past_more` meets its contract: nothing is passed behind a longer line, and else what is passed in the rest of the text.
-- Assumes nothing.
use borrow.Author.Rules.{rules}
use Rattle.lex_line.proofs.ShortLaws.{passes_none, passes_part}
use Rattle.lex_line.proofs.fast.past_more.Goals as goal

pub returns-then-size-gt-SHORT : goal.returns-then-size-gt-SHORT
returns-then-size-gt-SHORT c = search (passes_none, rules)

pub returns : goal.returns
returns c = search (passes_part, rules)
