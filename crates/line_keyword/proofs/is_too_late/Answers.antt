-- `line_keyword::is_too_late` meets its contract: each `return` by the tests that led there.
-- Assumes nothing.
use Rattle.base.proofs.IfLaws.{chain}
use Rattle.line_keyword.specs.Keywords.{is_too_late}
use Rattle.line_keyword.proofs.is_too_late.Goals as goal

pub returns-then-key-eq-MANUFACTURER : goal.returns-then-key-eq-MANUFACTURER
unfolding is_too_late
returns-then-key-eq-MANUFACTURER c = search chain depth 14 fits 4000

pub returns-then-key-eq-ICM_FAMILY_DESCRIPTION : goal.returns-then-key-eq-ICM_FAMILY_DESCRIPTION
unfolding is_too_late
returns-then-key-eq-ICM_FAMILY_DESCRIPTION c = search chain depth 14 fits 4000

pub returns : goal.returns
unfolding is_too_late
returns c = search chain depth 14 fits 4000
