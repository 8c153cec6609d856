-- `line_keyword::is_repeated` meets its contract: each `return` by the tests that led there.
-- Assumes nothing.
use Rattle.base.proofs.IfLaws.{chain}
use Rattle.line_keyword.specs.Keywords.{is_repeated}
use Rattle.line_keyword.proofs.is_repeated.Goals as goal

pub returns-then-not-is_once : goal.returns-then-not-is_once
unfolding is_repeated
returns-then-not-is_once c = search chain depth 14 fits 4000

pub returns : goal.returns
unfolding is_repeated
returns c = search chain depth 14 fits 4000
