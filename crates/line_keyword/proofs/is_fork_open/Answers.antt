-- `line_keyword::is_fork_open` meets its contract: each `return` by the tests that led there.
-- Assumes nothing.
use Rattle.base.proofs.IfLaws.{chain}
use Rattle.line_keyword.specs.Keywords.{is_fork_open}
use Rattle.line_keyword.proofs.is_fork_open.Goals as goal

pub returns-then-s-ne-PATH : goal.returns-then-s-ne-PATH
unfolding is_fork_open
returns-then-s-ne-PATH c = search chain depth 14 fits 4000

pub returns : goal.returns
unfolding is_fork_open
returns c = search chain depth 14 fits 4000
