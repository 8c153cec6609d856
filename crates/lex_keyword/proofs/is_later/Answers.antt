-- `lex_keyword::is_later` meets its contract: the same tests in the same order.
-- Assumes nothing.
use Rattle.base.proofs.IfLaws.{ifs, either_rest}
use Rattle.lex_keyword.specs.Names.{is_later}
use Rattle.lex_keyword.proofs.is_later.Goals as goal

pub returns-then-key-eq-COMMENT_CHAR : goal.returns-then-key-eq-COMMENT_CHAR
unfolding is_later
returns-then-key-eq-COMMENT_CHAR c = search ifs

pub returns-then-key-eq-NODAL_PATH_DESCRIPTION : goal.returns-then-key-eq-NODAL_PATH_DESCRIPTION
unfolding is_later
returns-then-key-eq-NODAL_PATH_DESCRIPTION c = search ifs

pub returns-then-key-eq-ICM_NODE_MAP : goal.returns-then-key-eq-ICM_NODE_MAP
unfolding is_later
returns-then-key-eq-ICM_NODE_MAP c = search ifs

pub returns-then-key-eq-ICM_SWATH_PARAMETERS : goal.returns-then-key-eq-ICM_SWATH_PARAMETERS
unfolding is_later
returns-then-key-eq-ICM_SWATH_PARAMETERS c = search ifs

pub returns-then-key-eq-ICM_SWATH_PIN_NUMBERS : goal.returns-then-key-eq-ICM_SWATH_PIN_NUMBERS
unfolding is_later
returns-then-key-eq-ICM_SWATH_PIN_NUMBERS c = search ifs

pub returns-then-key-eq-FREQUENCY : goal.returns-then-key-eq-FREQUENCY
unfolding is_later
returns-then-key-eq-FREQUENCY c = search ifs

pub returns : goal.returns
unfolding is_later
returns c = search (ifs, either_rest)
