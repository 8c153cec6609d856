-- `ask_sound::depth_holds` meets its contract. The loop's invariant: the steps left give what all of them give.
-- Assumes nothing.
use Rattle.ask_sound.proofs.LoopLaws.{DepthLeft}
use Rattle.ask_sound.proofs.depth_holds.Given as goal

abbrev pub invariant-loop-i : goal.invariant-loop-i
invariant-loop-i l = DepthLeft l.table l.from l.many l.depth l.i
