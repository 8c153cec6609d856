use Rattle.ask_sound.proofs.LoopLaws.{depth_starts, depth_ends, depth_refused, depth_on}
use Rattle.ask_sound.proofs.depth_holds.Goals as goal

pub loop-i-init : goal.loop-i-init
loop-i-init c = search depth_starts

pub returns-then-not-depth_stays : goal.returns-then-not-depth_stays
returns-then-not-depth_stays c = search depth_refused

pub loop-i-preserved : goal.loop-i-preserved
loop-i-preserved c = search depth_on

pub returns : goal.returns
returns c = search depth_ends
