-- `cross_steps::is_clashing` meets its contract. The loop's invariant: the steps left give what all of them give.
-- Assumes nothing.
use Rattle.cross_steps.specs.Way.StepWords.{meets_above}
use Rattle.cross_steps.proofs.RangeLaws.{Left}
use Rattle.table_record.specs.Records.{records_of, range}
use Rattle.cross_steps.proofs.is_clashing.Given as goal

abbrev pub invariant-loop-i : goal.invariant-loop-i
invariant-loop-i l = Left (meets_above l.text l.own) (range l.from l.above (records_of l.table).steps) l.i
