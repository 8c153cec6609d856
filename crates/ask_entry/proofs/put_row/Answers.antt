use Rattle.ask_entry.proofs.RowLaws.{row_starts, row_on, row_done, row_room}
use Rattle.ask_entry.proofs.put_row.Goals as goal

pub loop-column-init : goal.loop-column-init
loop-column-init c = search row_starts

pub bounds-values-at : goal.bounds-values-at
bounds-values-at c = search row_room

pub loop-column-preserved : goal.loop-column-preserved
loop-column-preserved c = search row_on

pub returns : goal.returns
returns c = search row_done
