-- `ask_sound::view_unjudged` meets its contract: a sound table has a view.
-- Assumes nothing.
use mathlib.Core.Path.{sym, ◌∙◌, ap}
use Rattle.std.specs.Prelude.{is_some}
use Rattle.ask_sound.proofs.SoundLaws.{known_view, known_some}
use Rattle.ask_sound.proofs.view_unjudged.Goals as goal

pub unwrap-requires : goal.unwrap-requires
unwrap-requires c = ap is_some c.view_of.ensures ∙ known_some _ _ c.requires

pub returns : goal.returns
returns c = known_view _ _ c.requires _ (sym c.unwrap.ensures ∙ c.view_of.ensures)
