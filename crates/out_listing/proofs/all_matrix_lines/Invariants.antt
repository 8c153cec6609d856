-- `out_listing::all_matrix_lines` meets its contract. The loop's invariant: the lines left, written from the next place on, give all of them.
-- Assumes nothing.
use Prim.Native.Nat.{◌-◌}
use Rattle.out_text.proofs.WrittenLaws.{Rest}
use Rattle.out_listing.specs.Listing.{listed_from, matrix_text}
use Rattle.out_listing.specs.Shown.{shown}
use Rattle.out_listing.proofs.all_matrix_lines.Given as goal

abbrev pub invariant-loop-i : goal.invariant-loop-i
invariant-loop-i l = Rest l.initial.out l.at (listed_from (matrix_text l.text (shown l.table)) l.count 0) l.out l.next (listed_from (matrix_text l.text (shown l.table)) (l.count - l.i) l.i)
