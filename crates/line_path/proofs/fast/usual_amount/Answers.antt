-- `line_path::fast::usual_amount` meets its contract: the pair stands behind the sign.
-- Assumes nothing.
use mathlib.Core.Path.{refl}
use native.Mathlib.Omega.{arith}
use Rattle.line_path.proofs.UsualLaws.{usual_told, opens_long, pair_above}
use Rattle.line_path.proofs.fast.usual_amount.Goals as goal

pub returns-then-not-opens_mult : goal.returns-then-not-opens_mult
returns-then-not-opens_mult c n = absurd (n refl)

pub slice_bounds-pair_end-count : goal.slice_bounds-pair_end-count
slice_bounds-pair_end-count c = search opens_long

pub slice_bounds-pair_end-start : goal.slice_bounds-pair_end-start
slice_bounds-pair_end-start c = search opens_long

pub returns-then-end-eq0 : goal.returns-then-end-eq0
returns-then-end-eq0 c n = absurd (n refl)

pub overflow_add-result : goal.overflow_add-result
overflow_add-result c = omega (arith, pair_above c.args.content.now c.pair_end-end.result c.pair_end-end.ensures c.if-end-eq0.false)

pub returns : goal.returns
returns c n = search usual_told
