-- `read_family::is_entered` meets its contract, test by test.
-- Assumes nothing.
use Rattle.base.proofs.IfLaws.{chain}
use Rattle.read_family.specs.Way.Blocks.{enters}
use Rattle.read_family.proofs.is_entered.Goals as goal

pub returns-then-after-head : goal.returns-then-after-head
unfolding enters
returns-then-after-head c = search chain

pub returns : goal.returns
unfolding enters
returns c = search chain
