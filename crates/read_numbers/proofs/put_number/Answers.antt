-- `read_numbers::put_number` meets its contract.
-- Assumes nothing.
use Rattle.read_numbers.proofs.StagingLaws.{number_put, value_fits}
use Rattle.read_numbers.proofs.put_number.Goals as goal

pub overflow_add-result-3 : goal.overflow_add-result-3
overflow_add-result-3 c = search value_fits

pub returns : goal.returns
returns c = search number_put
