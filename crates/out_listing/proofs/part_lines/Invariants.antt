-- `out_listing::part_lines` meets its contract. The loop's invariant: the lines left, written from the next place on, give all of them.
-- Assumes nothing.
use Prim.Native.Nat.{◌-◌}
use Rattle.out_text.proofs.WrittenLaws.{Rest}
use Rattle.out_listing.specs.Listing.{listed_from, listed_record}
use Rattle.out_listing.specs.Shown.{shown}
use Rattle.out_listing.proofs.part_lines.Given as goal

abbrev pub invariant-loop-i : goal.invariant-loop-i
invariant-loop-i l = Rest l.initial.out l.at (listed_from (listed_record l.text (shown l.table) l.part) l.count 0) l.out l.next (listed_from (listed_record l.text (shown l.table) l.part) (l.count - l.i) l.i)
