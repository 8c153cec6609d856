use borrow.Author.Rules.{rules}
use Rattle.ask_entry.proofs.RowLaws.{rows_start, rows_fit, rows_room, rows_on, rows_done}
use Rattle.ask_entry.proofs.put_rows.Goals as goal

pub loop-row-init : goal.loop-row-init
loop-row-init c = search rows_start

pub put_row-requires : goal.put_row-requires
put_row-requires c = search (rules, rows_room)

pub overflow_mul-to : goal.overflow_mul-to
overflow_mul-to c = search rows_fit

pub loop-row-preserved : goal.loop-row-preserved
loop-row-preserved c = search rows_on

pub returns : goal.returns
returns c = search rows_done
