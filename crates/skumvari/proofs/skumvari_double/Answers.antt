-- `skumvari::skumvari_double` meets its contract: the words of the answer, case by case; a double that is drawn has bits.
-- Assumes nothing.
use Rattle.skumvari.proofs.AnswerLaws.{double_drawn, double_outside, double_bits}
use Rattle.skumvari.proofs.skumvari_double.Goals as goal

pub float_to_bits-x : goal.float_to_bits-x
float_to_bits-x c = search double_bits

pub returns-in-Some-clause-answer_after : goal.returns-in-Some-clause-answer_after
returns-in-Some-clause-answer_after c = search double_drawn

pub returns-in-None-clause-answer_after : goal.returns-in-None-clause-answer_after
returns-in-None-clause-answer_after c = search double_outside
