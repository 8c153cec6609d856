-- `lex_number::is_value_word` meets its contract: each result by the tests that led there.
-- Assumes nothing.
use Rattle.base.proofs.IfLaws.{ifs}
use Rattle.lex_number.specs.ValueWord.{is_value_word}
use Rattle.lex_number.proofs.WordLaws.{word_tested}
use Rattle.lex_number.proofs.is_value_word.Goals as goal

pub returns-then-word-eq128 : goal.returns-then-word-eq128
unfolding is_value_word
returns-then-word-eq128 c = search ifs

pub returns-else-word-eq128 : goal.returns-else-word-eq128
returns-else-word-eq128 c = search word_tested
