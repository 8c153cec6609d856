-- `lex_number::fast::past` meets its contract: the flag as a number.
-- Assumes nothing.
use Rattle.lex_number.proofs.FlagLaws.{one_more}
use Rattle.lex_number.specs.Number.{is_sign}
use Rattle.lex_number.proofs.fast.past.Goals as goal

pub returns-clause-fact_1 : goal.returns-clause-fact_1
returns-clause-fact_1 c = one_more _ _ (is_sign _) (rw (← c.is_sign.ensures) c.from.ensures)
