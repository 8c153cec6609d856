-- `skumvari::skumvari_matrix` meets its contract: the words of the answer, and the values.
-- Assumes nothing.
use Rattle.skumvari.proofs.AnswerLaws.{room_none, matrix_left, values_left, matrix_said, values_kept}
use Rattle.skumvari.proofs.skumvari_matrix.Goals as goal

pub returns-then-answer-lt-ANSWER_WORDS-clause-value : goal.returns-then-answer-lt-ANSWER_WORDS-clause-value
returns-then-answer-lt-ANSWER_WORDS-clause-value c = search room_none

pub returns-then-answer-lt-ANSWER_WORDS-clause-answer_after : goal.returns-then-answer-lt-ANSWER_WORDS-clause-answer_after
returns-then-answer-lt-ANSWER_WORDS-clause-answer_after c = search matrix_left

pub returns-then-answer-lt-ANSWER_WORDS-clause-values_after : goal.returns-then-answer-lt-ANSWER_WORDS-clause-values_after
returns-then-answer-lt-ANSWER_WORDS-clause-values_after c = search values_left

pub returns-clause-answer_after : goal.returns-clause-answer_after
returns-clause-answer_after c = search matrix_said

pub returns-clause-values_after : goal.returns-clause-values_after
returns-clause-values_after c = search values_kept
