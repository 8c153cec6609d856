-- `skumvari::skumvari_pair` meets its contract: the words of the answer, case by case; doubles that are drawn have bits.
-- Assumes nothing.
use Rattle.skumvari.proofs.AnswerLaws.{pair_drawn, pair_outside, frequency_bits, value_bits}
use Rattle.skumvari.proofs.skumvari_pair.Goals as goal

pub float_to_bits-x : goal.float_to_bits-x
float_to_bits-x c = search (frequency_bits, value_bits)

pub float_to_bits-y : goal.float_to_bits-y
float_to_bits-y c = search (frequency_bits, value_bits)

pub returns-in-Some-clause-answer_after : goal.returns-in-Some-clause-answer_after
returns-in-Some-clause-answer_after c = search pair_drawn

pub returns-in-None-clause-answer_after : goal.returns-in-None-clause-answer_after
returns-in-None-clause-answer_after c = search pair_outside
