-- `cross_rules::less_if` meets its contract.
-- Assumes nothing.
use Rattle.base.proofs.IfLaws.{chain}
use Rattle.cross_rules.proofs.less_if.Goals as goal

pub returns-then-not-writes : goal.returns-then-not-writes
returns-then-not-writes c = search chain

pub returns : goal.returns
returns c = search chain
