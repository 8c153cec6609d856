-- `lex_number::scale_of` meets its contract: a power and its negation, each as far as it is above zero.
-- Assumes nothing.
use borrow.Author.Rules.{rules}
use Rattle.lex_number.proofs.ScaleLaws.{negated_fits, scale_told}
use Rattle.lex_number.proofs.scale_of.Goals as goal

pub overflow_sub-power : goal.overflow_sub-power
overflow_sub-power c = search (rules, negated_fits)

pub returns : goal.returns
returns c = search (rules, scale_told)
