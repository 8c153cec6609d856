-- `intake::judge` meets its contract.
-- Assumes nothing.
use Rattle.intake.proofs.IntakeLaws.{crossed_broken, crossed_kept, table_kept, table_cleared}
use Rattle.intake.proofs.judge.Goals as goal

pub returns-then-finding-ne0 : goal.returns-then-finding-ne0
returns-then-finding-ne0 c = (search crossed_broken, search table_cleared)

pub returns : goal.returns
returns c = (search crossed_kept, search table_kept)
