use Rattle.ask_walk.proofs.PlaceLaws.{count_starts, count_on, depth_below, depth_told}
use Rattle.ask_walk.proofs.is_depth.Goals as goal

pub loop-i-init : goal.loop-i-init
loop-i-init c = search count_starts

pub loop-i-preserved : goal.loop-i-preserved
loop-i-preserved c = search count_on

pub returns-then-opens-closes : goal.returns-then-opens-closes
returns-then-opens-closes c = search depth_below

pub returns : goal.returns
returns c = search depth_told
