-- `lex_number::value_of` meets its contract: the power of ten, its sums cut, stands exactly where the exact one does.
-- Assumes nothing.
use Rattle.lex_number.proofs.ValueLaws.{raising_cut, lowering_cut, value_formed}
use borrow.Author.Rules.{rules}
use Rattle.lex_number.proofs.value_of.Goals as goal

pub power-up-requires : goal.power-up-requires
power-up-requires c = search (rules, raising_cut)

pub power-down-requires : goal.power-down-requires
power-down-requires c = search (rules, lowering_cut)

pub returns : goal.returns
returns c = search value_formed
