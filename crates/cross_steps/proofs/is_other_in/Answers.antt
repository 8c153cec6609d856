use Rattle.cross_steps.proofs.RangeLaws.{left_starts, other_ends, other_found, other_on}
use Rattle.cross_steps.proofs.is_other_in.Goals as goal

pub loop-i-init : goal.loop-i-init
loop-i-init c = search left_starts

pub returns-then-matrix-ne-DIAGONAL : goal.returns-then-matrix-ne-DIAGONAL
returns-then-matrix-ne-DIAGONAL c = search other_found

pub loop-i-preserved : goal.loop-i-preserved
loop-i-preserved c = search other_on

pub returns : goal.returns
returns c = search other_ends
