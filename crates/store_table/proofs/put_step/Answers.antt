-- `store_table::put_step` meets its contract.
-- Assumes nothing.
use Rattle.store_table.proofs.TargetLaws.{record_found_lem}
use Rattle.store_table.proofs.put_step.Goals as goal

pub returns : goal.returns
returns c = search record_found_lem
