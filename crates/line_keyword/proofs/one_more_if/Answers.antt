-- `line_keyword::one_more_if` meets its contract: each `return` by the tests that led there.
-- Assumes nothing.
use Rattle.base.proofs.IfLaws.{chain}
use Rattle.line_keyword.specs.Keywords.{one_more_if}
use Rattle.line_keyword.proofs.one_more_if.Goals as goal

pub returns-then-b : goal.returns-then-b
unfolding one_more_if
returns-then-b c = search chain depth 14 fits 4000

pub returns : goal.returns
unfolding one_more_if
returns c = search chain depth 14 fits 4000
