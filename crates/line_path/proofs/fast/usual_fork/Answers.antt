-- `line_path::fast::usual_fork` meets its contract: the same numbers are the same bytes.
-- Assumes nothing.
use mathlib.Core.Path.{refl}
use Rattle.line_path.proofs.UsualLaws.{fork_told, endfork_told}
use Rattle.line_path.proofs.fast.usual_fork.Goals as goal

pub returns-then-four_at-eq-FORK_BYTES : goal.returns-then-four_at-eq-FORK_BYTES
returns-then-four_at-eq-FORK_BYTES c n = search fork_told

pub returns-then-content-eq4 : goal.returns-then-content-eq4
returns-then-content-eq4 c n = absurd (n refl)

pub returns-then-content-ne7 : goal.returns-then-content-ne7
returns-then-content-ne7 c n = absurd (n refl)

pub returns-then-four_at-ne-ENDF_BYTES : goal.returns-then-four_at-ne-ENDF_BYTES
returns-then-four_at-ne-ENDF_BYTES c n = absurd (n refl)

pub returns-then-four_at-ne-SMALL_FORK_BYTES : goal.returns-then-four_at-ne-SMALL_FORK_BYTES
returns-then-four_at-ne-SMALL_FORK_BYTES c n = absurd (n refl)

pub returns : goal.returns
returns c n = search endfork_told
