-- `lex_keyword::is_good_word` meets its contract: each `return` by the tests that led there.
-- Assumes nothing.
use Rattle.std.proofs.Common.{rules}
use Rattle.lex_keyword.proofs.WordLaws.{good_none, good_plain, good_hyphen}
use Rattle.lex_keyword.proofs.is_good_word.Goals as goal

pub returns-then-is_empty : goal.returns-then-is_empty
returns-then-is_empty c = search (rules, good_none)

pub returns-then-is_plain : goal.returns-then-is_plain
returns-then-is_plain c = search (rules, good_plain)

pub returns : goal.returns
returns c = search (rules, good_hyphen)
