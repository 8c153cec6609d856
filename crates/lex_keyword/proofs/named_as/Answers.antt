-- `lex_keyword::named_as` meets its contract: each `return` by the tests that led there.
-- Assumes nothing.
use Rattle.lex_keyword.proofs.BracketLaws.{named_unknown, named_later, named_keyword}
use Rattle.lex_keyword.proofs.named_as.Goals as goal

pub returns-then-key-eq-UNKNOWN : goal.returns-then-key-eq-UNKNOWN
returns-then-key-eq-UNKNOWN c = search named_unknown

pub returns-then-is_later : goal.returns-then-is_later
returns-then-is_later c = search named_later

pub returns : goal.returns
returns c = search named_keyword
