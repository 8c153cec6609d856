-- `lex_keyword::says_name` meets its contract.
-- Assumes nothing.
use Rattle.lex_keyword.proofs.BracketLaws.{says_bad, says_key}
use Rattle.lex_keyword.proofs.says_name.Goals as goal

pub returns-then-not-is_good_name : goal.returns-then-not-is_good_name
returns-then-not-is_good_name c = search says_bad

pub returns : goal.returns
returns c = search says_key
