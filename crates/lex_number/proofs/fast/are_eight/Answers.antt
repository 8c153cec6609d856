-- `lex_number::fast::are_eight` meets its contract: the two comparisons decide.
-- Assumes nothing.
use borrow.Author.Rules.{rules}
use Rattle.lex_number.proofs.PairLaws.{eight_digits, eight_sum}
use Rattle.lex_number.proofs.fast.are_eight.Goals as goal

pub overflow_add-result : goal.overflow_add-result
overflow_add-result c = search (rules, eight_sum)

pub returns-then-word-eq3472328296227680304 : goal.returns-then-word-eq3472328296227680304
returns-then-word-eq3472328296227680304 c = search eight_digits
