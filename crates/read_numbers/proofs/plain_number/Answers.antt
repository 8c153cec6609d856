-- `read_numbers::plain_number` meets its contract.
-- Assumes nothing.
use Rattle.base.proofs.RunLaws.{run_starts, run_ends}
use Rattle.read_numbers.proofs.StagingLaws.{plain_is}
use Rattle.read_numbers.proofs.plain_number.Goals as goal

pub slice_bounds-read_number-count : goal.slice_bounds-read_number-count
slice_bounds-read_number-count c = search run_starts

pub slice_bounds-read_number-start : goal.slice_bounds-read_number-start
slice_bounds-read_number-start c = search run_starts

pub slice_bounds-read_number-end : goal.slice_bounds-read_number-end
slice_bounds-read_number-end c = search run_ends

pub returns : goal.returns
returns c = search plain_is
