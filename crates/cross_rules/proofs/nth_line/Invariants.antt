-- `cross_rules::nth_line` meets its contract. The loop's invariant: what is left to count among the lines left gives the line.
-- Assumes nothing.
use Prim.Native.Nat.{◌-◌}
use lib.ListN.{length}
use Rattle.cross_rules.proofs.NthLaws.{CountLeft}
use Rattle.cross_rules.proofs.nth_line.Given as goal

abbrev pub invariant-loop-cursor : goal.invariant-loop-cursor
invariant-loop-cursor l = CountLeft l.text l.part l.index l.left l.cursor

abbrev pub decreases-loop-cursor : goal.decreases-loop-cursor
decreases-loop-cursor l = length l.text - l.cursor.at
