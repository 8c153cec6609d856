-- `skumvari::skumvari_entry` meets its contract.
-- Assumes nothing.
use Rattle.skumvari.proofs.AnswerLaws.{entry_said}
use Rattle.skumvari.proofs.skumvari_entry.Goals as goal

pub returns-clause-answer_after : goal.returns-clause-answer_after
returns-clause-answer_after c = search entry_said
