-- `ask_entry::put_rows` meets its contract. The loop's invariant: the rows still to store, stored, give what all of them give.
-- Assumes nothing.
use Rattle.table_record.specs.Records.{records_of}
use Rattle.ask_entry.proofs.RowLaws.{RowsLeft}
use Rattle.ask_entry.proofs.put_rows.Given as goal

abbrev pub invariant-loop-row : goal.invariant-loop-row
invariant-loop-row l = RowsLeft (records_of l.table) l.index l.conductors l.initial.values l.values l.row
