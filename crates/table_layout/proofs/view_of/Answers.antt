use Rattle.table_layout.proofs.ViewLaws.{view_starts, view_fails, view_short, view_done, view_on}
use Rattle.table_layout.proofs.view_of.Goals as goal

pub loop-part-init : goal.loop-part-init
loop-part-init c = search view_starts

pub returns-then-part-count : goal.returns-then-part-count
returns-then-part-count c = search view_fails

pub loop-part-preserved : goal.loop-part-preserved
loop-part-preserved c = search view_on

pub returns-then-table-at : goal.returns-then-table-at
returns-then-table-at c = search view_short

pub returns : goal.returns
returns c = search view_done
