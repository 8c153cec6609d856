-- `cross_names::list::list_finding` meets its contract. The loop's invariant: the flags raised tell what the lines above name, and what is left gives the whole.
-- Assumes nothing.
use Prim.Native.Nat.{◌-◌}
use lib.ListN.{length}
use Rattle.cross_names.proofs.ListLaws.{ListLeft}
use Rattle.cross_names.proofs.list.list_finding.Given as goal

abbrev pub invariant-loop-view : goal.invariant-loop-view
invariant-loop-view l = ListLeft l.text l.listed l.cursor

abbrev pub decreases-loop-view : goal.decreases-loop-view
decreases-loop-view l = length l.text - l.cursor.at
