-- `out_listing::owner_of` meets its contract. The loop's invariant: the first of the sections left that has the matrix is the first of all.
-- Assumes nothing.
use mathlib.Core.Path.{◌≡◌}
use Prim.Native.Nat.{◌-◌}
use Rattle.out_listing.specs.Shown.{shown, owner_from, owner_of}
use Rattle.out_listing.proofs.owner_of.Given as goal

abbrev pub invariant-loop-i : goal.invariant-loop-i
invariant-loop-i l = owner_from (shown l.table) l.matrix (l.count - l.i) l.i ≡ owner_of (shown l.table) l.matrix
