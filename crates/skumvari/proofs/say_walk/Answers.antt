-- `skumvari::say_walk` meets its contract: the words of the answer, case by case.
-- Assumes nothing.
use Rattle.skumvari.proofs.AnswerLaws.{walk_stepped, walk_done, walk_refused, no_step_is}
use Rattle.skumvari.proofs.say_walk.Goals as goal

pub returns-in-Step-clause-answer_after : goal.returns-in-Step-clause-answer_after
returns-in-Step-clause-answer_after c = search walk_stepped

pub returns-in-Done-clause-answer_after : goal.returns-in-Done-clause-answer_after
returns-in-Done-clause-answer_after c = let none = no_step_is _ c.default.ensures in search walk_done

pub returns-in-Refused-clause-answer_after : goal.returns-in-Refused-clause-answer_after
returns-in-Refused-clause-answer_after c = let none = no_step_is _ c.default-in-Refused.ensures in search walk_refused
