-- `skumvari::skumvari_walk_unjudged` meets its contract.
-- Assumes nothing.
use Rattle.skumvari.proofs.AnswerLaws.{walk_said}
use Rattle.skumvari.proofs.skumvari_walk_unjudged.Goals as goal

pub returns-clause-answer_after : goal.returns-clause-answer_after
returns-clause-answer_after c = search walk_said
