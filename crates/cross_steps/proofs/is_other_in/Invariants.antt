-- `cross_steps::is_other_in` meets its contract. The loop's invariant: the matrices left give what all of them give.
-- Assumes nothing.
use Rattle.cross_steps.specs.Way.StepWords.{other_in}
use Rattle.cross_steps.proofs.RangeLaws.{Left}
use Rattle.table_record.specs.Records.{records_of, range}
use Rattle.cross_steps.proofs.is_other_in.Given as goal

abbrev pub invariant-loop-i : goal.invariant-loop-i
invariant-loop-i l = Left other_in (range l.from l.count (records_of l.table).matrices) l.i
