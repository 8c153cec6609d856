-- `line_path::fast::pair_end` meets its contract: one blank ends the first word, and the second goes up to the end.
-- Assumes nothing.
use mathlib.Core.Path.{refl}
use Rattle.line_path.proofs.UsualLaws.{pair_told}
use Rattle.line_path.proofs.fast.pair_end.Goals as goal

pub returns-then-s-end : goal.returns-then-s-end
returns-then-s-end c n = absurd (n refl)

pub returns-then-stop-name : goal.returns-then-stop-name
returns-then-stop-name c n = absurd (n refl)

pub returns-then-stop-s : goal.returns-then-stop-s
returns-then-stop-s c n = absurd (n refl)

pub returns : goal.returns
returns c n = search pair_told
