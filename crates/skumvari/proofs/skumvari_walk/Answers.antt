-- `skumvari::skumvari_walk` meets its contract.
-- Assumes nothing.
use Rattle.skumvari.proofs.AnswerLaws.{walk_said}
use Rattle.skumvari.proofs.skumvari_walk.Goals as goal

pub returns-clause-answer_after : goal.returns-clause-answer_after
returns-clause-answer_after c = search walk_said
