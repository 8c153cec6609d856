-- `skumvari::walk_words` meets its contract: the step and the next place stand as the layout says.
-- Assumes nothing.
use mathlib.Core.Path.{refl}
use Rattle.skumvari.specs.Words.{step_layout}
use Rattle.skumvari.proofs.walk_words.Goals as goal

pub returns : goal.returns
unfolding step_layout
returns c = refl
