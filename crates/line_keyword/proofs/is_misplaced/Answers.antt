-- `line_keyword::is_misplaced` meets its contract: each `return` by the tests that led there.
-- Assumes nothing.
use Rattle.base.proofs.IfLaws.{chain}
use Rattle.line_keyword.specs.Keywords.{is_misplaced}
use Rattle.line_keyword.proofs.is_misplaced.Goals as goal

pub returns-then-moved-eq-DEAD : goal.returns-then-moved-eq-DEAD
unfolding is_misplaced
returns-then-moved-eq-DEAD c = search chain depth 14 fits 4000

pub returns-then-is_unclosed : goal.returns-then-is_unclosed
unfolding is_misplaced
returns-then-is_unclosed c = search chain depth 14 fits 4000

pub returns-then-is_repeated : goal.returns-then-is_repeated
unfolding is_misplaced
returns-then-is_repeated c = search chain depth 14 fits 4000

pub returns-then-is_lacking : goal.returns-then-is_lacking
unfolding is_misplaced
returns-then-is_lacking c = search chain depth 14 fits 4000

pub returns : goal.returns
unfolding is_misplaced
returns c = search chain depth 14 fits 4000
