-- `read_matrix::take_data` meets its contract: by the front of the line.
-- Assumes nothing.
use Rattle.read_line.proofs.QuietLaws.{blanks_front, words_front, opening_front}
use Rattle.read_matrix.proofs.LineLaws.{blank_takes}
use borrow.Author.Rules.{rules}
use Rattle.read_matrix.proofs.take_data.Goals as goal

pub data_line-requires : goal.data_line-requires
data_line-requires c = let front = words_front _ _ c.front_of.ensures c.in-Words.is in
    (front.0, front.1, search rules, search rules)

pub opened_line-requires : goal.opened_line-requires
opened_line-requires c = let front = opening_front _ _ c.front_of.ensures c.in-Opening.is in
    (front.0, front.1, search rules)

pub returns-in-Blanks : goal.returns-in-Blanks
returns-in-Blanks c = blank_takes _ _ _ _ (blanks_front _ _ c.front_of.ensures c.in-Blanks.is) c.requires.0
