-- `read_path::side_in` meets its contract.
-- Assumes nothing.
use Rattle.read_path.proofs.SideLaws.{side_keyed, side_other, side_told}
use Rattle.read_path.proofs.side_in.Goals as goal

pub returns-then-line-ne-PLAIN : goal.returns-then-line-ne-PLAIN
returns-then-line-ne-PLAIN c = search side_keyed

pub returns-then-saying_of-ne-SIDE : goal.returns-then-saying_of-ne-SIDE
returns-then-saying_of-ne-SIDE c = search side_other

pub returns : goal.returns
returns c = search side_told
