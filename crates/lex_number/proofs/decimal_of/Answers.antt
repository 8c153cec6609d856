-- `lex_number::decimal_of` meets its contract: the three parts are those of the definition.
-- Assumes nothing.
use borrow.Author.Rules.{rules}
use Rattle.lex_number.specs.ValueWord.{decimal_of}
use Rattle.lex_number.proofs.decimal_of.Goals as goal

pub returns : goal.returns
unfolding decimal_of
returns c = search rules
