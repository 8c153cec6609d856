-- `line_argument::is_bad_integer` meets its contract: by what the calls answered.
-- Assumes nothing.
use Rattle.line_argument.proofs.ArgumentLaws.{no_integer, integer_told}
use Rattle.line_argument.proofs.is_bad_integer.Goals as goal

pub returns-then-is_row_or_bandwidth : goal.returns-then-is_row_or_bandwidth
returns-then-is_row_or_bandwidth c = search integer_told

pub returns-else-is_row_or_bandwidth : goal.returns-else-is_row_or_bandwidth
returns-else-is_row_or_bandwidth c = search no_integer
