use Prim.Native.Nat.{◌+◌, ◌*◌}
use native.Mathlib.Omega.{arith}
use Rattle.table_name.proofs.MarkLaws.{step_inside, mark_starts, mark_ends, mark_on}
use Rattle.table_name.proofs.hash_of.Goals as goal

pub loop-b-init : goal.loop-b-init
loop-b-init c = search mark_starts

pub overflow_add-mark-in-loop-b : goal.overflow_add-mark-in-loop-b
overflow_add-mark-in-loop-b c = omega (arith, step_inside (c.loop-b.mark * 37 + c.from.result))

pub loop-b-preserved : goal.loop-b-preserved
loop-b-preserved c = search mark_on

pub returns : goal.returns
returns c = search mark_ends
