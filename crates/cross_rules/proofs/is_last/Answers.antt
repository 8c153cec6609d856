-- `cross_rules::is_last` meets its contract.
-- Assumes nothing.
use Rattle.base.proofs.IfLaws.{chain}
use Rattle.cross_rules.proofs.is_last.Goals as goal

pub returns-then-not-writes : goal.returns-then-not-writes
returns-then-not-writes c = search chain

pub returns : goal.returns
returns c = search chain
