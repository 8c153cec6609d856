-- `read_matrix::take_pair` meets its contract: by the front of the line.
-- Assumes nothing.
use Rattle.read_line.proofs.QuietLaws.{words_front}
use Rattle.read_matrix.proofs.RunLaws.{pair_blank, pair_opened}
use Rattle.read_matrix.proofs.take_pair.Goals as goal

pub plain_pair-requires-clause-fact_1 : goal.plain_pair-requires-clause-fact_1
plain_pair-requires-clause-fact_1 c = words_front _ _ c.front_at.ensures c.in-Words.is

pub returns-in-Blanks : goal.returns-in-Blanks
returns-in-Blanks c = search pair_blank

pub returns-in-Opening : goal.returns-in-Opening
returns-in-Opening c = search pair_opened
