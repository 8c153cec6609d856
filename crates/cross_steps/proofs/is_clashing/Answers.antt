use Rattle.cross_steps.proofs.RangeLaws.{left_starts, meets_ends, meets_found, meets_on}
use Rattle.cross_steps.proofs.is_clashing.Goals as goal

pub loop-i-init : goal.loop-i-init
loop-i-init c = search left_starts

pub returns-then-meets : goal.returns-then-meets
returns-then-meets c = search meets_found

pub loop-i-preserved : goal.loop-i-preserved
loop-i-preserved c = search meets_on

pub returns : goal.returns
returns c = search meets_ends
