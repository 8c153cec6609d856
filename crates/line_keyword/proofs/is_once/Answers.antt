-- `line_keyword::is_once` meets its contract: each `return` by the tests that led there.
-- Assumes nothing.
use Rattle.base.proofs.IfLaws.{chain}
use Rattle.line_keyword.specs.Keywords.{is_once}
use Rattle.line_keyword.proofs.is_once.Goals as goal

pub returns-then-stands_in_header : goal.returns-then-stands_in_header
unfolding is_once
returns-then-stands_in_header c = search chain depth 14 fits 4000

pub returns-then-opens_header_text : goal.returns-then-opens_header_text
unfolding is_once
returns-then-opens_header_text c = search chain depth 14 fits 4000

pub returns-then-opens_matrix : goal.returns-then-opens_matrix
unfolding is_once
returns-then-opens_matrix c = search chain depth 14 fits 4000

pub returns-then-key-eq-MANUFACTURER : goal.returns-then-key-eq-MANUFACTURER
unfolding is_once
returns-then-key-eq-MANUFACTURER c = search chain depth 14 fits 4000

pub returns-then-key-eq-ICM_MODEL_LIST : goal.returns-then-key-eq-ICM_MODEL_LIST
unfolding is_once
returns-then-key-eq-ICM_MODEL_LIST c = search chain depth 14 fits 4000

pub returns-then-key-eq-ICM_FAMILY_DESCRIPTION : goal.returns-then-key-eq-ICM_FAMILY_DESCRIPTION
unfolding is_once
returns-then-key-eq-ICM_FAMILY_DESCRIPTION c = search chain depth 14 fits 4000

pub returns-then-key-eq-TREE_PATH_DESCRIPTION : goal.returns-then-key-eq-TREE_PATH_DESCRIPTION
unfolding is_once
returns-then-key-eq-TREE_PATH_DESCRIPTION c = search chain depth 14 fits 4000

pub returns : goal.returns
unfolding is_once
returns c = search chain depth 14 fits 4000
