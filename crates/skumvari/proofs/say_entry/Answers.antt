-- `skumvari::say_entry` meets its contract: the words of the answer, case by case.
-- Assumes nothing.
use Rattle.skumvari.proofs.AnswerLaws.{entry_found, entry_refused_lem}
use Rattle.skumvari.proofs.say_entry.Goals as goal

pub returns-in-Ok-clause-answer_after : goal.returns-in-Ok-clause-answer_after
returns-in-Ok-clause-answer_after c = search entry_found

pub returns-in-Err-clause-answer_after : goal.returns-in-Err-clause-answer_after
returns-in-Err-clause-answer_after c = search entry_refused_lem
