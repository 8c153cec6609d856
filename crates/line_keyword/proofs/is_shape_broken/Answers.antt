-- `line_keyword::is_shape_broken` meets its contract: each `return` by the tests that led there.
-- Assumes nothing.
use Rattle.base.proofs.IfLaws.{chain}
use Rattle.line_keyword.specs.Keywords.{is_shape_broken}
use Rattle.line_keyword.proofs.is_shape_broken.Goals as goal

pub returns-then-s-eq-MATRIX : goal.returns-then-s-eq-MATRIX
unfolding is_shape_broken
returns-then-s-eq-MATRIX c = search chain depth 14 fits 4000

pub returns-then-s-ne-PIN_LIST : goal.returns-then-s-ne-PIN_LIST
unfolding is_shape_broken
returns-then-s-ne-PIN_LIST c = search chain depth 14 fits 4000

pub returns : goal.returns
unfolding is_shape_broken
returns c = search chain depth 14 fits 4000
