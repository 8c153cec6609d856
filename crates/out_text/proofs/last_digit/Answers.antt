-- `out_text::last_digit` meets its contract.
-- Assumes nothing.
use Rattle.out_text.specs.Printing.{last_digit}
use borrow.Author.Rules.{rules}
use Rattle.out_text.proofs.last_digit.Goals as goal

pub returns : goal.returns
unfolding last_digit
returns c = search rules
