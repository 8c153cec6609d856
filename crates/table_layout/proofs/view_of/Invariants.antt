-- `table_layout::view_of` meets its contract. The loop's invariant: what the parts left give completes what all of them give.
-- Assumes nothing.
use Rattle.table_layout.proofs.ViewLaws.{ViewLeft}
use Rattle.table_layout.proofs.view_of.Given as goal

abbrev pub invariant-loop-part : goal.invariant-loop-part
invariant-loop-part l = ViewLeft l.table l.bases l.counts l.at l.part
