use Rattle.out_listing.proofs.LoopLaws.{lines_start, lines_on, lines_done}
use Rattle.out_listing.proofs.part_lines.Goals as goal

pub loop-i-init : goal.loop-i-init
loop-i-init c = search lines_start

pub loop-i-preserved : goal.loop-i-preserved
loop-i-preserved c = search lines_on

pub returns : goal.returns
returns c = search lines_done
