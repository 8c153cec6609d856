use borrow.Author.Rules.{rules}
use native.Mathlib.Nat.{lt_of_lt_of_le}
use Rattle.table_layout.proofs.StoreLaws.{part_on, words_done, sum_fits}
use Rattle.table_layout.proofs.words_before.Goals as goal

pub overflow_add-words-in-loop-next : goal.overflow_add-words-in-loop-next
overflow_add-words-in-loop-next c = search (rules, sum_fits, lt_of_lt_of_le)

pub loop-next-preserved : goal.loop-next-preserved
loop-next-preserved c = search (rules, part_on, lt_of_lt_of_le)

pub returns : goal.returns
returns c = search words_done
