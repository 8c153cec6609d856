-- `law_whole::take_in` meets its contract.
-- Assumes nothing.
use Rattle.law_whole.proofs.WholeLaws.{all_demanded}
use Rattle.law_whole.proofs.take_in.Goals as goal

pub returns : goal.returns
returns c = search all_demanded
