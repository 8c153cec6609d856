-- `cross_names::sections::used_sections` meets its contract. The loop's invariant: the flags raised and the steps left give what all steps give.
-- Assumes nothing.
use Rattle.table_record.specs.Records.{records_of}
use Rattle.cross_names.proofs.UsedLaws.{Raised}
use Rattle.cross_names.proofs.sections.used_sections.Given as goal

abbrev pub invariant-loop-i : goal.invariant-loop-i
invariant-loop-i l = Raised (records_of l.table).steps l.used l.i
