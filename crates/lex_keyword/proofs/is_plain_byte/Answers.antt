-- `lex_keyword::is_plain_byte` meets its contract.
-- Assumes nothing.
use Rattle.lex_keyword.proofs.ByteLaws.{plain_letter, plain_digit}
use Rattle.lex_keyword.proofs.is_plain_byte.Goals as goal

pub returns-then-is_letter : goal.returns-then-is_letter
returns-then-is_letter c = search plain_letter

pub returns : goal.returns
returns c = search plain_digit
