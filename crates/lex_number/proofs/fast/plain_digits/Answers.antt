-- `lex_number::fast::plain_digits` meets its contract: one run of digits, or two with a point between them.
-- Assumes nothing.
use Rattle.lex_number.proofs.PlainLaws.{weight_few, digits_one, dot_light, digits_two}
use borrow.Author.Rules.{rules}
use Rattle.lex_number.proofs.fast.plain_digits.Goals as goal

pub read_run-whole-requires-clause-fact_3 : goal.read_run-whole-requires-clause-fact_3
read_run-whole-requires-clause-fact_3 c = search (rules, weight_few)

pub returns-then-whole-ne46 : goal.returns-then-whole-ne46
returns-then-whole-ne46 c = search digits_one

pub read_part-part-requires-clause-fact_3 : goal.read_part-part-requires-clause-fact_3
read_part-part-requires-clause-fact_3 c = search dot_light

pub returns : goal.returns
returns c = search digits_two
