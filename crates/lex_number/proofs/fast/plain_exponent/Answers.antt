-- `lex_number::fast::plain_exponent` meets its contract: none without an e, none without digits after it, else what the digits write.
-- Assumes nothing.
use Rattle.lex_number.proofs.PlainLaws.{weight_few, exponent_none, exponent_bare, exponent_told}
use borrow.Author.Rules.{rules}
use Rattle.lex_number.proofs.fast.plain_exponent.Goals as goal

pub returns-then-not-is_e : goal.returns-then-not-is_e
returns-then-not-is_e c = search exponent_none

pub read_run-x-requires-clause-fact_3 : goal.read_run-x-requires-clause-fact_3
read_run-x-requires-clause-fact_3 c = search (rules, weight_few)

pub returns-then-x-digits : goal.returns-then-x-digits
returns-then-x-digits c = search exponent_bare

pub returns : goal.returns
returns c = search exponent_told
