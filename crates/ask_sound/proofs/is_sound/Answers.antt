-- `ask_sound::is_sound` meets its contract: a view is handed on exactly if the table is sound.
-- Assumes nothing.
use mathlib.Core.Path.{◌∙◌}
use Rattle.ask_sound.proofs.SoundLaws.{told_sound_by}
use Rattle.ask_sound.proofs.is_sound.Goals as goal

pub returns : goal.returns
returns c = c.is_some.ensures ∙ told_sound_by _ _ _ c.sound_view.ensures
