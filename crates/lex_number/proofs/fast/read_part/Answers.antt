-- `lex_number::fast::read_part` meets its contract: so many steps of the run at once lead to the same end.
-- Assumes nothing.
use Rattle.lex_number.proofs.BlockLaws.{before_fits, block_fits, block_room, block_told, block_read}
use borrow.Author.Rules.{rules}
use Rattle.lex_number.proofs.fast.read_part.Goals as goal

pub overflow_mul-before : goal.overflow_mul-before
overflow_mul-before c = search (rules, before_fits 8)

pub eight_value-requires : goal.eight_value-requires
eight_value-requires c = search (rules, block_told 8)

pub overflow_add-before : goal.overflow_add-before
overflow_add-before c = search (block_fits 8)

pub read_four-requires-clause-fact_3 : goal.read_four-requires-clause-fact_3
read_four-requires-clause-fact_3 c = search (block_room 8)

pub returns-then-are_eight : goal.returns-then-are_eight
returns-then-are_eight c = search (block_read 8)
