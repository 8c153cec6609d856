-- `cross_steps::first_target` meets its contract. The loop's invariant: the steps left give what all of them give.
-- Assumes nothing.
use Rattle.cross_steps.specs.Way.StepWords.{first_target}
use Rattle.cross_steps.proofs.RangeLaws.{Left}
use Rattle.table_record.specs.Records.{records_of, range}
use Rattle.cross_steps.proofs.first_target.Given as goal

abbrev pub invariant-loop-i : goal.invariant-loop-i
invariant-loop-i l = Left (first_target l.none) (range l.from l.count (records_of l.table).steps) l.i
