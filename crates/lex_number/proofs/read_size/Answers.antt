-- `lex_number::read_size` meets its contract: each goal by a law of the loop.
-- Assumes nothing.
use borrow.Author.Rules.{rules}
use Rattle.base.proofs.RunLaws.{tested_stop, tested_on, reach_past}
use Rattle.lex_number.specs.Way.Capped.{capped_exponent, size_at}
use Rattle.lex_number.proofs.SizeLaws.{size_on, exponents_same, size_stop, size_past, size_on_lem, next_cut, told_from, told_to}
use Rattle.lex_number.proofs.read_size.Goals as goal

pub loop-i-init : goal.loop-i-init
unfolding capped_exponent size_at size_on
loop-i-init c = search rules

pub returns-then-not-is_digit : goal.returns-then-not-is_digit
unfolding capped_exponent size_at
returns-then-not-is_digit c = search (rules, exponents_same, size_stop, tested_stop)

pub overflow_sub-wide : goal.overflow_sub-wide
overflow_sub-wide c = search told_from

pub extended-size-requires : goal.extended-size-requires
extended-size-requires c = search (rules, told_to)

pub loop-i-preserved : goal.loop-i-preserved
loop-i-preserved c = search (rules, next_cut, size_on_lem, tested_on)

pub returns : goal.returns
unfolding capped_exponent size_at
returns c = search (rules, exponents_same, size_past, reach_past)
