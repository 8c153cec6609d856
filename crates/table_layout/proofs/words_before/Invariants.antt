-- `table_layout::words_before` meets its contract. The loop's invariant: the words counted so far and those of the
-- parts that are left are all the words needed.
-- Assumes nothing.
use mathlib.Core.Path.{◌≡◌}
use Prim.Native.Nat.{◌+◌}
use lib.ListN.{drop}
use Rattle.table_layout.specs.Layout.{widths, needed}
use Rattle.table_layout.proofs.words_before.Given as goal

abbrev pub invariant-loop-next : goal.invariant-loop-next
invariant-loop-next l = l.words + needed (drop l.next widths) (drop l.next l.counts) ≡ needed widths l.counts
