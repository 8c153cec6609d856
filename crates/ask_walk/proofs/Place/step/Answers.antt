-- `ask_walk::Place::step` meets its contract.
-- Assumes nothing.
use mathlib.Core.Path.{sym, ◌∙◌}
use Rattle.ask_walk.proofs.StepLaws.{walk_unsound, walk_sound}
use Rattle.ask_sound.proofs.SoundLaws.{told_sound, told_rooms, told_records}
use Rattle.ask_walk.proofs.Place.step.Goals as goal

pub returns-in_default : goal.returns-in_default
returns-in_default c = walk_unsound _ _ _ (sym c.in_default.is ∙ c.sound_view.ensures)

pub walk_in-requires : goal.walk_in-requires
walk_in-requires c =
    let is = sym c.in-Some.is ∙ c.sound_view.ensures in
    (told_rooms _ _ _ is, told_records _ _ _ is)

pub returns : goal.returns
returns c = walk_sound _ _ _ (told_sound _ _ _ (sym c.in-Some.is ∙ c.sound_view.ensures)) _ c.walk_in.ensures
