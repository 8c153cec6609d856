-- `line_path::fast::usual_line` meets its contract: the amount and the name stand where the form has them.
-- Assumes nothing.
use native.Mathlib.Omega.{arith}
use Rattle.line_path.proofs.UsualLaws.{usual_reserved, usual_kept, usual_within}
use Rattle.line_path.proofs.fast.usual_line.Goals as goal

pub overflow_add-name : goal.overflow_add-name
overflow_add-name c = omega (arith, usual_within)

pub slice_bounds-is_reserved-count : goal.slice_bounds-is_reserved-count
slice_bounds-is_reserved-count c = omega (arith, usual_within)

pub slice_bounds-is_reserved-start : goal.slice_bounds-is_reserved-start
slice_bounds-is_reserved-start c = omega (arith, usual_within)

pub returns-then-is_reserved : goal.returns-then-is_reserved
returns-then-is_reserved c = search usual_reserved

pub slice_bounds-amount_line-end : goal.slice_bounds-amount_line-end
slice_bounds-amount_line-end c = omega (arith, usual_within)

pub returns : goal.returns
returns c = search usual_kept
