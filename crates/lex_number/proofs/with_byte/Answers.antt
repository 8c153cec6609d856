-- `lex_number::with_byte` meets its contract: each result by the tests that led there.
-- Assumes nothing.
use borrow.Author.Rules.{rules}
use Rattle.lex_number.proofs.DigitLaws.{byte_point, byte_digit, value_from, value_to}
use Rattle.lex_number.proofs.with_byte.Goals as goal

pub overflow_sub-wide : goal.overflow_sub-wide
overflow_sub-wide c = search value_from

pub with_digit-requires-clause-fact_3 : goal.with_digit-requires-clause-fact_3
with_digit-requires-clause-fact_3 c = search (rules, value_to)

pub returns-then-b-eq46 : goal.returns-then-b-eq46
returns-then-b-eq46 c = search byte_point

pub returns-else-b-eq46 : goal.returns-else-b-eq46
returns-else-b-eq46 c = search byte_digit
