-- `line_keyword::is_full` meets its contract: each `return` by the tests that led there.
-- Assumes nothing.
use Rattle.base.proofs.IfLaws.{chain}
use Rattle.line_keyword.specs.Keywords.{is_full}
use Rattle.line_keyword.proofs.is_full.Goals as goal

pub returns-then-key-eq-BEGIN_ICM_MODEL : goal.returns-then-key-eq-BEGIN_ICM_MODEL
unfolding is_full
returns-then-key-eq-BEGIN_ICM_MODEL c = search chain depth 14 fits 4000

pub returns-then-key-eq-ICM_PIN_MAP : goal.returns-then-key-eq-ICM_PIN_MAP
unfolding is_full
returns-then-key-eq-ICM_PIN_MAP c = search chain depth 14 fits 4000

pub returns-then-key-eq-BEGIN_ICM_SECTION : goal.returns-then-key-eq-BEGIN_ICM_SECTION
unfolding is_full
returns-then-key-eq-BEGIN_ICM_SECTION c = search chain depth 14 fits 4000

pub returns : goal.returns
unfolding is_full
returns c = search chain depth 14 fits 4000
