-- `table_name::fast::tail_of` meets its contract.
-- Assumes nothing.
use Rattle.table_name.proofs.TailLaws.{tails_short, tails_four}
use Rattle.table_name.proofs.fast.tail_of.Goals as goal

pub returns-then-name-lt-TAIL : goal.returns-then-name-lt-TAIL
returns-then-name-lt-TAIL c = search tails_short

pub returns : goal.returns
returns c = search tails_four
