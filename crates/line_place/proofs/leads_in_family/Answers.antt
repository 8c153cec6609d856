-- `line_place::leads_in_family` meets its contract.
-- Assumes nothing.
use Rattle.base.proofs.IfLaws.{chain}
use Rattle.line_place.specs.Place.{leads_in_family}
use Rattle.line_place.proofs.leads_in_family.Goals as goal

pub returns-then-key-eq-ICM_PIN_MAP : goal.returns-then-key-eq-ICM_PIN_MAP
unfolding leads_in_family
returns-then-key-eq-ICM_PIN_MAP c = search chain depth 12

pub returns-then-key-eq-BEGIN_ICM_MODEL : goal.returns-then-key-eq-BEGIN_ICM_MODEL
unfolding leads_in_family
returns-then-key-eq-BEGIN_ICM_MODEL c = search chain depth 12

pub returns-then-key-eq-END_ICM_FAMILY : goal.returns-then-key-eq-END_ICM_FAMILY
unfolding leads_in_family
returns-then-key-eq-END_ICM_FAMILY c = search chain depth 12

pub returns-then-key-eq-MANUFACTURER : goal.returns-then-key-eq-MANUFACTURER
unfolding leads_in_family
returns-then-key-eq-MANUFACTURER c = search chain depth 12

pub returns-then-key-eq-ICM_MODEL_LIST : goal.returns-then-key-eq-ICM_MODEL_LIST
unfolding leads_in_family
returns-then-key-eq-ICM_MODEL_LIST c = search chain depth 12

pub returns-then-key-eq-ICM_FAMILY_DESCRIPTION : goal.returns-then-key-eq-ICM_FAMILY_DESCRIPTION
unfolding leads_in_family
returns-then-key-eq-ICM_FAMILY_DESCRIPTION c = search chain depth 12

pub returns : goal.returns
unfolding leads_in_family
returns c = search chain depth 12
