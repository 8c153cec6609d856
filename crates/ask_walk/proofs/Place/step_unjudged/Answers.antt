-- `ask_walk::Place::step_unjudged` meets its contract.
-- Assumes nothing.
use Rattle.ask_walk.proofs.StepLaws.{walk_known}
use borrow.Author.Rules.{rules}
use Rattle.ask_sound.proofs.SoundLaws.{told_rooms, told_records}
use Rattle.ask_walk.proofs.Place.step_unjudged.Goals as goal

pub walk_on-requires : goal.walk_on-requires
walk_on-requires c = (search told_rooms, search told_records, search rules)

pub returns : goal.returns
returns c = search walk_known
