-- `read_matrix::take_numbers` meets its contract: by the front of the line.
-- Assumes nothing.
use Rattle.read_line.proofs.QuietLaws.{words_front}
use Rattle.read_matrix.proofs.RunLaws.{numbers_blank, numbers_opened}
use Rattle.read_matrix.proofs.take_numbers.Goals as goal

pub plain_numbers-requires-clause-fact_1 : goal.plain_numbers-requires-clause-fact_1
plain_numbers-requires-clause-fact_1 c = words_front _ _ c.front_at.ensures c.in-Words.is

pub returns-in-Blanks : goal.returns-in-Blanks
returns-in-Blanks c = search numbers_blank

pub returns-in-Opening : goal.returns-in-Opening
returns-in-Opening c = search numbers_opened
