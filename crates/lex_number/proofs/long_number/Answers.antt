-- `lex_number::long_number` meets its contract: the word from its start to its end.
-- Assumes nothing.
use Rattle.base.proofs.RunLaws.{run_starts, run_ends}
use Rattle.lex_number.proofs.InLaws.{in_past, in_is}
use borrow.Author.Rules.{rules}
use Rattle.lex_number.proofs.long_number.Goals as goal

pub returns-then-s-from : goal.returns-then-s-from
returns-then-s-from c = search in_past

pub slice_bounds-read_number-end : goal.slice_bounds-read_number-end
slice_bounds-read_number-end c = search (rules, run_starts, run_ends)

pub returns : goal.returns
returns c = search in_is
