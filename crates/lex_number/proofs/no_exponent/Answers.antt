-- `lex_number::no_exponent` meets its contract: the definition, field by field.
-- Assumes nothing.
use borrow.Author.Rules.{rules}
use Rattle.lex_number.specs.Number.{no_exponent}
use Rattle.lex_number.proofs.no_exponent.Goals as goal

pub returns : goal.returns
unfolding no_exponent
returns c = search rules
