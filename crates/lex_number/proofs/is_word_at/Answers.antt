-- `lex_number::is_word_at` meets its contract: each result by the tests that led there.
-- Assumes nothing.
use Rattle.lex_number.proofs.InLaws.{no_word, word_there}
use Rattle.lex_number.proofs.is_word_at.Goals as goal

pub returns-then-at-s : goal.returns-then-at-s
returns-then-at-s c = search word_there

pub returns-else-at-s : goal.returns-else-at-s
returns-else-at-s c = search no_word
