-- `ask_sound::values_rise` meets its contract. The loop's invariant: the values left give what all of them give.
-- Assumes nothing.
use Prim.Native.Nat.{◌+◌, ◌*◌}
use Rattle.ask_sound.proofs.LoopLaws.{RiseLeft}
use Rattle.ask_sound.proofs.values_rise.Given as goal

abbrev pub invariant-loop-i : goal.invariant-loop-i
invariant-loop-i l = RiseLeft l.table (l.base + 3 * l.first) l.many l.i
