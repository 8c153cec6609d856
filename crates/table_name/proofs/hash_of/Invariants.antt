-- `table_name::hash_of` meets its contract. The loop's invariant: what is left of the name gives the number of the whole.
-- Assumes nothing.
use Rattle.table_name.proofs.MarkLaws.{MarkLeft}
use Rattle.table_name.proofs.hash_of.Given as goal

abbrev pub invariant-loop-b : goal.invariant-loop-b
invariant-loop-b l = MarkLeft l.group l.name l.mark l.b-index
