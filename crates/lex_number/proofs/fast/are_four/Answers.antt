-- `lex_number::fast::are_four` meets its contract: the two comparisons decide.
-- Assumes nothing.
use Rattle.lex_number.proofs.PairLaws.{four_digits}
use Rattle.lex_number.proofs.fast.are_four.Goals as goal

pub returns-then-word-eq808464432 : goal.returns-then-word-eq808464432
returns-then-word-eq808464432 c = search four_digits
