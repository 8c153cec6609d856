-- `read_matrix::pass_data` meets its contract. The loop's invariant: how far the lines are judged and staged.
-- Assumes nothing.
use Prim.Native.Nat.{◌-◌}
use lib.ListN.{length}
use Rattle.read_matrix.proofs.RunLaws.{Passed}
use Rattle.read_matrix.proofs.pass_data.Given as goal

abbrev pub invariant-loop-here : goal.invariant-loop-here
invariant-loop-here l = Passed l.text l.at l.line l.initial.part.matrix l.values l.initial.table l.here l.line_here l.part l.table

abbrev pub decreases-loop-here : goal.decreases-loop-here
decreases-loop-here l = length l.text - l.here
