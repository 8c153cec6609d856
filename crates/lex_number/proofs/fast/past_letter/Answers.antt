-- `lex_number::fast::past_letter` meets its contract: the flag as a number.
-- Assumes nothing.
use Rattle.lex_number.proofs.FlagLaws.{one_more}
use Rattle.base.specs.Bytes.{is_letter}
use Rattle.lex_number.proofs.fast.past_letter.Goals as goal

pub returns-clause-fact_1 : goal.returns-clause-fact_1
returns-clause-fact_1 c = one_more _ _ (is_letter _) (rw (← c.is_letter.ensures) c.from.ensures)
