-- `line_keyword::closes_too_wide` meets its contract: each `return` by the tests that led there.
-- Assumes nothing.
use Rattle.base.proofs.IfLaws.{chain}
use Rattle.line_keyword.specs.Keywords.{closes_too_wide}
use Rattle.line_keyword.proofs.closes_too_wide.Goals as goal

pub returns-then-s-ne-MATRIX : goal.returns-then-s-ne-MATRIX
unfolding closes_too_wide
returns-then-s-ne-MATRIX c = search chain depth 14 fits 4000

pub returns-then-is_row_or_bandwidth : goal.returns-then-is_row_or_bandwidth
unfolding closes_too_wide
returns-then-is_row_or_bandwidth c = search chain depth 14 fits 4000

pub returns : goal.returns
unfolding closes_too_wide
returns c = search chain depth 14 fits 4000
