-- `line_keyword::conductors_after` meets its contract: each `return` by the tests that led there.
-- Assumes nothing.
use Rattle.base.proofs.IfLaws.{chain}
use Rattle.line_keyword.specs.Keywords.{conductors_after}
use Rattle.line_keyword.proofs.conductors_after.Goals as goal

pub returns-then-s-ne-MATRIX : goal.returns-then-s-ne-MATRIX
unfolding conductors_after
returns-then-s-ne-MATRIX c = search chain depth 14 fits 4000

pub returns-then-is_row_or_bandwidth : goal.returns-then-is_row_or_bandwidth
unfolding conductors_after
returns-then-is_row_or_bandwidth c = search chain depth 14 fits 4000

pub returns : goal.returns
unfolding conductors_after
returns c = search chain depth 14 fits 4000
