-- `lex_number::goes_on` meets its contract: each result by the tests that led there.
-- Assumes nothing.
use Rattle.lex_number.proofs.DigitLaws.{goes_digit, goes_not, goes_point}
use Rattle.lex_number.proofs.goes_on.Goals as goal

pub returns-then-is_digit : goal.returns-then-is_digit
returns-then-is_digit c = search goes_digit

pub returns-then-b-eq46 : goal.returns-then-b-eq46
returns-then-b-eq46 c = search goes_point

pub returns-else-b-eq46 : goal.returns-else-b-eq46
returns-else-b-eq46 c = search goes_not
