-- `doc::next_line` meets its contract. The loop's invariant: the lines from the start are those from where it has come.
-- Assumes nothing.
use lib.ListN.{length}
use Prim.Native.Nat.{◌-◌}
use Rattle.doc.proofs.FoundLaws.{Onward}
use Rattle.doc.proofs.next_line.Given as goal

abbrev pub invariant-loop-here : goal.invariant-loop-here
invariant-loop-here l = Onward l.text l.line l.at l.line_here l.here

abbrev pub decreases-loop-here : goal.decreases-loop-here
decreases-loop-here l = length l.text - l.here
