-- `line_keyword::family_lacks` meets its contract: each `return` by the tests that led there.
-- Assumes nothing.
use Rattle.base.proofs.IfLaws.{chain}
use Rattle.line_keyword.specs.Keywords.{family_lacks}
use Rattle.line_keyword.proofs.family_lacks.Goals as goal

pub returns-then-not-is_seen : goal.returns-then-not-is_seen
unfolding family_lacks
returns-then-not-is_seen c = search chain depth 14 fits 4000

pub returns : goal.returns
unfolding family_lacks
returns c = search chain depth 14 fits 4000
