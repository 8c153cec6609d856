-- `line_matrix::numbers_line` meets its contract. The loop's invariant: what was read of the line and what its words from here on add.
-- Assumes nothing.
use Prim.Native.Nat.{◌-◌, ◌≤◌}
use lib.ListN.{length}
use Rattle.line_matrix.proofs.MatrixLaws.{Pending}
use Rattle.line_matrix.proofs.numbers_line.Given as goal

abbrev pub invariant-loop-at : goal.invariant-loop-at
invariant-loop-at l = (l.at ≤ length l.content) × Pending l.content l.at l.numbers l.formed l.bounded

abbrev pub decreases-loop-at : goal.decreases-loop-at
decreases-loop-at l = length l.content - l.at
