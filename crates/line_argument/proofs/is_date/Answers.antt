-- `line_argument::is_date` meets its contract: each `return` by the tests that led there.
-- Assumes nothing.
use Rattle.base.specs.Bytes.{within}
use Rattle.base.proofs.IfLaws.{ifs, both_rest}
use Rattle.line_argument.proofs.is_date.Goals as goal

pub returns-then-s-ge1 : goal.returns-then-s-ge1
unfolding within
returns-then-s-ge1 c = search (ifs, both_rest)

pub returns-else-s-ge1 : goal.returns-else-s-ge1
unfolding within
returns-else-s-ge1 c = search (ifs, both_rest)
