-- `line_keyword::is_lacking` meets its contract: each `return` by the tests that led there.
-- Assumes nothing.
use Rattle.base.proofs.IfLaws.{chain}
use Rattle.line_keyword.specs.Keywords.{is_lacking}
use Rattle.line_keyword.proofs.is_lacking.Goals as goal

pub returns-then-key-eq-END_HEADER : goal.returns-then-key-eq-END_HEADER
unfolding is_lacking
returns-then-key-eq-END_HEADER c = search chain depth 14 fits 4000

pub returns-then-key-eq-BEGIN_ICM_MODEL : goal.returns-then-key-eq-BEGIN_ICM_MODEL
unfolding is_lacking
returns-then-key-eq-BEGIN_ICM_MODEL c = search chain depth 14 fits 4000

pub returns-then-key-eq-END_ICM_FAMILY : goal.returns-then-key-eq-END_ICM_FAMILY
unfolding is_lacking
returns-then-key-eq-END_ICM_FAMILY c = search chain depth 14 fits 4000

pub returns-then-key-eq-END_ICM_MODEL : goal.returns-then-key-eq-END_ICM_MODEL
unfolding is_lacking
returns-then-key-eq-END_ICM_MODEL c = search chain depth 14 fits 4000

pub returns-then-key-eq-END_ICM_SECTION : goal.returns-then-key-eq-END_ICM_SECTION
unfolding is_lacking
returns-then-key-eq-END_ICM_SECTION c = search chain depth 14 fits 4000

pub returns-then-key-eq-THE_END : goal.returns-then-key-eq-THE_END
unfolding is_lacking
returns-then-key-eq-THE_END c = search chain depth 14 fits 4000

pub returns : goal.returns
unfolding is_lacking
returns c = search chain depth 14 fits 4000
