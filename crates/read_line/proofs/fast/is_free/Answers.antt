-- `read_line::fast::is_free` meets its contract.
-- Assumes nothing.
use Rattle.base.proofs.IfLaws.{chain}
use Rattle.read_line.specs.Way.Listed.{is_free}
use Rattle.read_line.proofs.fast.is_free.Goals as goal

pub returns-then-b-le32 : goal.returns-then-b-le32
unfolding is_free
returns-then-b-le32 c = search chain

pub returns-then-b-eq-OPENING : goal.returns-then-b-eq-OPENING
unfolding is_free
returns-then-b-eq-OPENING c = search chain

pub returns : goal.returns
unfolding is_free
returns c = search chain depth 9
