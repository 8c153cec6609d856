-- `lex_number::number_at` meets its contract: the word from its start to its end.
-- Assumes nothing.
use Rattle.base.proofs.RunLaws.{run_starts, run_ends}
use Rattle.lex_number.proofs.InLineLaws.{at_past, long_is}
use borrow.Author.Rules.{rules}
use Rattle.lex_number.proofs.number_at.Goals as goal

pub returns-then-s-from : goal.returns-then-s-from
returns-then-s-from c = search at_past

pub slice_bounds-read_number-end : goal.slice_bounds-read_number-end
slice_bounds-read_number-end c = search (rules, run_starts, run_ends)

pub returns : goal.returns
returns c = search long_is
