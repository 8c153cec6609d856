-- `lex_number::fast::read_four` meets its contract: so many steps of the run at once lead to the same end.
-- Assumes nothing.
use Rattle.lex_number.proofs.BlockLaws.{before_fits, block_fits, block_room, block_told, block_read}
use Rattle.lex_number.proofs.PlainLaws.{read_nothing}
use borrow.Author.Rules.{rules}
use Rattle.lex_number.proofs.fast.read_four.Goals as goal

pub returns-then-not-is_digit : goal.returns-then-not-is_digit
returns-then-not-is_digit c = search read_nothing

pub overflow_mul-before : goal.overflow_mul-before
overflow_mul-before c = search (rules, before_fits 4)

pub four_value-requires : goal.four_value-requires
four_value-requires c = search (rules, block_told 4)

pub overflow_add-before : goal.overflow_add-before
overflow_add-before c = search (block_fits 4)

pub read_run-requires-clause-fact_3 : goal.read_run-requires-clause-fact_3
read_run-requires-clause-fact_3 c = search (block_room 4)

pub returns-then-are_four : goal.returns-then-are_four
returns-then-are_four c = search (block_read 4)
