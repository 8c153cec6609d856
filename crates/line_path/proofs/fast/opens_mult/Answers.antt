-- `line_path::fast::opens_mult` meets its contract: the same numbers are the same bytes.
-- Assumes nothing.
use mathlib.Core.Path.{sym}
use mathlib.Core.Bool.{true≢false}
use Rattle.line_path.proofs.UsualLaws.{opens_told}
use Rattle.line_path.proofs.fast.opens_mult.Goals as goal

pub returns-then-content-lt-AMOUNT_AT : goal.returns-then-content-lt-AMOUNT_AT
returns-then-content-lt-AMOUNT_AT c e = absurd (true≢false (sym e))

pub returns-then-eight_at-ne-SECTION_BYTES : goal.returns-then-eight_at-ne-SECTION_BYTES
returns-then-eight_at-ne-SECTION_BYTES c e = absurd (true≢false (sym e))

pub returns : goal.returns
returns c e = search opens_told
