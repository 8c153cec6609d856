-- `lex_number::read_digits` meets its contract: each goal by a law of the loop.
-- Assumes nothing.
use borrow.Author.Rules.{rules}
use Rattle.lex_number.proofs.DigitLaws.{start_kept, start_end, start_same, cut_next, end_next, digits_on, digits_stop, digits_past}
use Rattle.lex_number.proofs.read_digits.Goals as goal

pub loop-b-init : goal.loop-b-init
loop-b-init c = search (rules, start_kept, start_end, start_same)

pub returns-then-not-goes_on : goal.returns-then-not-goes_on
returns-then-not-goes_on c = search digits_stop

pub loop-b-preserved : goal.loop-b-preserved
loop-b-preserved c = search (rules, cut_next, end_next, digits_on)

pub returns : goal.returns
returns c = search digits_past
