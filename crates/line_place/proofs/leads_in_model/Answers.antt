-- `line_place::leads_in_model` meets its contract: each `return` by the keywords it was compared with.
-- Assumes nothing.
use Rattle.base.proofs.IfLaws.{chain}
use Rattle.line_place.specs.Place.{leads_in_model}
use Rattle.line_place.proofs.leads_in_model.Goals as goal

pub returns-then-key-eq-TREE_PATH_DESCRIPTION : goal.returns-then-key-eq-TREE_PATH_DESCRIPTION
unfolding leads_in_model
returns-then-key-eq-TREE_PATH_DESCRIPTION c = search chain depth 12

pub returns-then-key-eq-ICM_MODEL_DESCRIPTION : goal.returns-then-key-eq-ICM_MODEL_DESCRIPTION
unfolding leads_in_model
returns-then-key-eq-ICM_MODEL_DESCRIPTION c = search chain depth 12

pub returns-then-key-eq-END_ICM_MODEL : goal.returns-then-key-eq-END_ICM_MODEL
unfolding leads_in_model
returns-then-key-eq-END_ICM_MODEL c = search chain depth 12

pub returns : goal.returns
unfolding leads_in_model
returns c = search chain depth 12
