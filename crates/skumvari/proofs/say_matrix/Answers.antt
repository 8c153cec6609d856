-- `skumvari::say_matrix` meets its contract: the words of the answer, case by case.
-- Assumes nothing.
use Rattle.skumvari.proofs.AnswerLaws.{matrix_found, matrix_short, matrix_refused_lem}
use Rattle.skumvari.proofs.say_matrix.Goals as goal

pub returns-in-Found-clause-answer_after : goal.returns-in-Found-clause-answer_after
returns-in-Found-clause-answer_after c = search matrix_found

pub returns-in-Short-clause-answer_after : goal.returns-in-Short-clause-answer_after
returns-in-Short-clause-answer_after c = search matrix_short

pub returns-in-Refused-clause-answer_after : goal.returns-in-Refused-clause-answer_after
returns-in-Refused-clause-answer_after c = search matrix_refused_lem
