-- `line_keyword::head_after` meets its contract: each `return` by the tests that led there.
-- Assumes nothing.
use Rattle.base.proofs.IfLaws.{chain}
use Rattle.line_keyword.specs.Keywords.{head_after}
use Rattle.line_keyword.proofs.head_after.Goals as goal

pub returns-then-key-eq-BEGIN_ICM_MODEL : goal.returns-then-key-eq-BEGIN_ICM_MODEL
unfolding head_after
returns-then-key-eq-BEGIN_ICM_MODEL c = search chain depth 14 fits 4000

pub returns : goal.returns
unfolding head_after
returns c = search chain depth 14 fits 4000
