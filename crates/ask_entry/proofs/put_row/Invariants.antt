-- `ask_entry::put_row` meets its contract. The loop's invariant: the entries of the row still to store, stored, give what all of them give.
-- Assumes nothing.
use Rattle.table_record.specs.Records.{records_of}
use Rattle.ask_entry.proofs.RowLaws.{RowLeft}
use Rattle.ask_entry.proofs.put_row.Given as goal

abbrev pub invariant-loop-column : goal.invariant-loop-column
invariant-loop-column l = RowLeft (records_of l.table) l.index l.row l.conductors l.initial.values l.at l.values l.column
