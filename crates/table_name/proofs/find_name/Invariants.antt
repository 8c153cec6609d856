-- `table_name::find_name` meets its contract. The loop: none of the records before is the one, so what is left gives the whole.
-- Assumes nothing.
use Rattle.table_name.specs.Way.Search.{Tails}
use Rattle.table_name.proofs.SearchLaws.{Searching}
use Rattle.table_name.proofs.find_name.Given as goal

abbrev pub invariant-loop-i : goal.invariant-loop-i
invariant-loop-i l = Searching l.text l.table l.base l.width l.count l.name l.after l.i × Tails l.name l.tail
