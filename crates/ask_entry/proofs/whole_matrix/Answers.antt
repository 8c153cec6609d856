-- `ask_entry::whole_matrix` meets its contract: 30, or the answer in a sound table.
-- Assumes nothing.
use mathlib.Core.Path.{sym, ◌∙◌}
use borrow.Author.Rules.{rules}
use Rattle.ask_entry.proofs.WholeLaws.{whole_unsound, whole_known, room_refused}
use Rattle.ask_sound.proofs.SoundLaws.{told_sound, told_rooms, told_records}
use Rattle.ask_entry.proofs.whole_matrix.Goals as goal

pub returns-in_default : goal.returns-in_default
returns-in_default c = (whole_unsound _ _ _ _ _ (sym c.in_default.is ∙ c.sound_view.ensures), search room_refused)

pub matrix_from-requires : goal.matrix_from-requires
matrix_from-requires c =
    let is = sym c.in-Some.is ∙ c.sound_view.ensures in
    (told_rooms _ _ _ is, told_records _ _ _ is)

pub returns : goal.returns
returns c = (whole_known _ _ _ _ _ (told_sound _ _ _ (sym c.in-Some.is ∙ c.sound_view.ensures)) _ c.matrix_from.ensures.0, search rules)
