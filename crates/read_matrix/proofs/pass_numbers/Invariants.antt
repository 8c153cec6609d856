-- `read_matrix::pass_numbers` meets its contract. The loop's invariant: so far the run leads.
-- Assumes nothing.
use Prim.Native.Nat.{◌-◌}
use lib.ListN.{length}
use Rattle.read_matrix.specs.Way.Run.{numbers_part}
use Rattle.read_matrix.proofs.RunLaws.{On}
use Rattle.read_matrix.proofs.pass_numbers.Given as goal

abbrev pub invariant-loop-here : goal.invariant-loop-here
invariant-loop-here l = On l.text l.at l.line l.part l.initial.table l.here l.line_here (numbers_part l.part l.values l.row l.column) l.table

abbrev pub decreases-loop-here : goal.decreases-loop-here
decreases-loop-here l = length l.text - l.here
