-- `store_table::lift` meets its contract: the words are moved, and zeros stored behind them.
-- Assumes nothing.
use Rattle.store_table.proofs.LiftLaws.{lifted}
use Rattle.store_table.proofs.lift.Goals as goal

pub returns : goal.returns
returns c = search lifted
