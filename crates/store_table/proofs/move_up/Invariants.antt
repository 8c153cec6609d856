-- `store_table::move_up` meets its contract. The loop's invariant: the words still to move, moved, give what all of them give.
-- Assumes nothing.
use mathlib.Core.Path.{◌≡◌}
use lib.ListN.{length, take}
use lib.Seq.{sets}
use Rattle.store_table.proofs.move_up.Given as goal

abbrev pub invariant-loop-i : goal.invariant-loop-i
invariant-loop-i l = (length l.table ≡ length l.initial.table) × (sets l.table l.up (take l.i l.table) ≡ sets l.initial.table l.up (take l.count l.initial.table))
