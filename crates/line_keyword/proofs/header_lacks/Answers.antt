-- `line_keyword::header_lacks` meets its contract: each `return` by the tests that led there.
-- Assumes nothing.
use Rattle.base.proofs.IfLaws.{chain}
use Rattle.line_keyword.specs.Keywords.{header_lacks}
use Rattle.line_keyword.proofs.header_lacks.Goals as goal

pub returns-then-not-is_seen : goal.returns-then-not-is_seen
unfolding header_lacks
returns-then-not-is_seen c = search chain depth 14 fits 4000

pub returns : goal.returns
unfolding header_lacks
returns c = search chain depth 14 fits 4000
