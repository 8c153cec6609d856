-- `read_matrix::front_at` meets its contract: by the first byte that is no blank.
-- Assumes nothing.
use Rattle.read_matrix.proofs.FrontLaws.{text_blanks, text_opens, text_words}
use Rattle.read_matrix.proofs.front_at.Goals as goal

pub returns-then-not-is_word_at : goal.returns-then-not-is_word_at
returns-then-not-is_word_at c = search text_blanks

pub returns-then-byte_at-eq-OPENING : goal.returns-then-byte_at-eq-OPENING
returns-then-byte_at-eq-OPENING c = search text_opens

pub returns : goal.returns
returns c = search text_words
