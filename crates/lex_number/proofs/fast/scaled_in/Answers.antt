-- `lex_number::fast::scaled_in` meets its contract: where the number is known, it is the one at `from`.
-- Assumes nothing.
use borrow.Author.Rules.{rules}
use Rattle.lex_number.proofs.ScaleLaws.{scale_up, scale_down}
use Rattle.lex_number.proofs.InLaws.{scaled_short, scaled_long}
use Rattle.lex_number.proofs.fast.scaled_in.Goals as goal

pub plain_value-requires-clause-fact_2 : goal.plain_value-requires-clause-fact_2
plain_value-requires-clause-fact_2 c = search (rules, scale_up)

pub plain_value-requires-clause-fact_3 : goal.plain_value-requires-clause-fact_3
plain_value-requires-clause-fact_3 c = search (rules, scale_down)

pub returns-then-not-contains : goal.returns-then-not-contains
returns-then-not-contains c = search scaled_short

pub plain_value-requires-2-clause-fact_2 : goal.plain_value-requires-2-clause-fact_2
plain_value-requires-2-clause-fact_2 c = search (rules, scale_up)

pub plain_value-requires-2-clause-fact_3 : goal.plain_value-requires-2-clause-fact_3
plain_value-requires-2-clause-fact_3 c = search (rules, scale_down)

pub returns : goal.returns
returns c = search scaled_long
