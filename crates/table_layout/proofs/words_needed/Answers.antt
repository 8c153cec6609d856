-- `table_layout::words_needed` meets its contract: all parts come before the end.
-- Assumes nothing.
use borrow.Author.Rules.{rules}
use Rattle.table_layout.proofs.StoreLaws.{words_whole}
use Rattle.table_layout.proofs.words_needed.Goals as goal

pub returns : goal.returns
returns c = search (rules, words_whole)
