-- `out_text::put_bytes` meets its contract. The loop's invariant: the bytes before `i` are stored.
-- Assumes nothing.
use mathlib.Core.Path.{◌≡◌}
use Prim.Native.Nat.{◌≤◌}
use lib.ListN.{take}
use lib.Seq.{sets}
use Rattle.out_text.proofs.put_bytes.Given as goal

abbrev pub invariant-loop-i : goal.invariant-loop-i
invariant-loop-i l = record { inside : l.i ≤ l.size; stored : l.out ≡ sets l.initial.out l.start (take l.i l.bytes) }
