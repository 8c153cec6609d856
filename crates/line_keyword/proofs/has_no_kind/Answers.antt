-- `line_keyword::has_no_kind` meets its contract: each `return` by the tests that led there.
-- Assumes nothing.
use Rattle.base.proofs.IfLaws.{chain}
use Rattle.line_keyword.specs.Keywords.{has_no_kind}
use Rattle.line_keyword.proofs.has_no_kind.Goals as goal

pub returns-then-is_seen : goal.returns-then-is_seen
unfolding has_no_kind
returns-then-is_seen c = search chain depth 14 fits 4000

pub returns-then-is_seen-2 : goal.returns-then-is_seen-2
unfolding has_no_kind
returns-then-is_seen-2 c = search chain depth 14 fits 4000

pub returns-then-is_seen-3 : goal.returns-then-is_seen-3
unfolding has_no_kind
returns-then-is_seen-3 c = search chain depth 14 fits 4000

pub returns : goal.returns
unfolding has_no_kind
returns c = search chain depth 14 fits 4000
