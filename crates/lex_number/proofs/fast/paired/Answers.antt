-- `lex_number::fast::paired` meets its contract: as the definition has it.
-- Assumes nothing.
use Rattle.lex_number.specs.Way.Block.{paired_digits}
use borrow.Author.Rules.{rules}
use Rattle.lex_number.proofs.fast.paired.Goals as goal

pub returns : goal.returns
unfolding paired_digits
returns c = search rules
