-- `read_line::at_end` meets its contract: by the place.
-- Assumes nothing.
use Rattle.read_line.proofs.ResultLaws.{end_read, end_before, end_early}
use Rattle.read_line.proofs.at_end.Goals as goal

pub returns-then-s-eq-DONE : goal.returns-then-s-eq-DONE
returns-then-s-eq-DONE c = search end_read

pub returns-then-s-eq-BEFORE : goal.returns-then-s-eq-BEFORE
returns-then-s-eq-BEFORE c = search end_before

pub returns : goal.returns
returns c = search end_early
