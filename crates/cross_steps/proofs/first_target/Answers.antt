use Rattle.cross_steps.proofs.RangeLaws.{left_starts, target_none, target_found, target_on}
use Rattle.cross_steps.proofs.first_target.Goals as goal

pub loop-i-init : goal.loop-i-init
loop-i-init c = search left_starts

pub returns-then-step-eq-END : goal.returns-then-step-eq-END
returns-then-step-eq-END c = search target_found

pub loop-i-preserved : goal.loop-i-preserved
loop-i-preserved c = search target_on

pub returns : goal.returns
returns c = search target_none
