-- `line_keyword::is_past_bound` meets its contract: each `return` by the tests that led there.
-- Assumes nothing.
use Rattle.base.proofs.IfLaws.{chain}
use Rattle.line_keyword.specs.Keywords.{is_past_bound}
use Rattle.line_keyword.proofs.is_past_bound.Goals as goal

pub returns-then-closes_too_wide : goal.returns-then-closes_too_wide
unfolding is_past_bound
returns-then-closes_too_wide c = search chain depth 14 fits 4000

pub returns : goal.returns
unfolding is_past_bound
returns c = search chain depth 14 fits 4000
