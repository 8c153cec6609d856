-- `lex_keyword::is_good_name` meets its contract.
-- Assumes nothing.
use Rattle.lex_keyword.proofs.BracketLaws.{name_bad, name_words}
use Rattle.lex_keyword.proofs.is_good_name.Goals as goal

pub returns-then-not-is_letter : goal.returns-then-not-is_letter
returns-then-not-is_letter c = search name_bad

pub returns : goal.returns
returns c = search name_words
