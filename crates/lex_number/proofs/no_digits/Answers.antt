-- `lex_number::no_digits` meets its contract: the definition, field by field.
-- Assumes nothing.
use borrow.Author.Rules.{rules}
use Rattle.lex_number.specs.Number.{no_digits}
use Rattle.lex_number.proofs.no_digits.Goals as goal

pub returns : goal.returns
unfolding no_digits
returns c = search rules
