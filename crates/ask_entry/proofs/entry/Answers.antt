-- `ask_entry::entry` meets its contract: 30, or the answer in a sound table.
-- Assumes nothing.
use mathlib.Core.Path.{sym, ◌∙◌}
use Rattle.ask_entry.proofs.EntryLaws.{answer_unsound, answer_known}
use Rattle.ask_sound.proofs.SoundLaws.{told_sound, told_rooms, told_records}
use Rattle.ask_entry.proofs.entry.Goals as goal

pub returns-in_default : goal.returns-in_default
returns-in_default c = answer_unsound _ _ _ _ _ _ (sym c.in_default.is ∙ c.sound_view.ensures)

pub entry_from-requires : goal.entry_from-requires
entry_from-requires c =
    let is = sym c.in-Some.is ∙ c.sound_view.ensures in
    (told_rooms _ _ _ is, told_records _ _ _ is)

pub returns : goal.returns
returns c = answer_known _ _ _ _ _ _ (told_sound _ _ _ (sym c.in-Some.is ∙ c.sound_view.ensures)) _ c.entry_from.ensures
