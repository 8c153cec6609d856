-- `read_numbers::store_numbers` meets its contract. The invariant of the first loop: the numbers that are left give what all
-- of them give. Of the second: so they do, and none was stored since the first that found no room.
-- Assumes nothing.
use Prim.Native.Nat.{◌-◌}
use lib.ListN.{length}
use Rattle.read_numbers.proofs.StagingLaws.{Left, Passes}
use Rattle.read_numbers.proofs.store_numbers.Given as goal

abbrev pub invariant-loop-start : goal.invariant-loop-start
invariant-loop-start l = Left l.form l.text l.from l.initial.table l.values l.row l.column l.at l.cursor l.table

abbrev pub decreases-loop-start : goal.decreases-loop-start
decreases-loop-start l = length l.text - l.at

abbrev pub invariant-loop-cursor : goal.invariant-loop-cursor
invariant-loop-cursor l = Passes l.form l.text l.initial.at l.initial.cursor l.at l.cursor

abbrev pub decreases-loop-cursor : goal.decreases-loop-cursor
decreases-loop-cursor l = length l.text - l.at
