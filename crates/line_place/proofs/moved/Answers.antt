-- `line_place::moved` meets its contract: each `return` by the places it was compared with. Many tests come before the
-- later returns, which is why their search counts further. Assumes nothing.
use Rattle.base.proofs.IfLaws.{chain}
use Rattle.line_place.specs.Place.{moved}
use Rattle.line_place.proofs.moved.Goals as goal

pub returns-then-place-eq-MATRIX : goal.returns-then-place-eq-MATRIX
unfolding moved
returns-then-place-eq-MATRIX c = search chain depth 12

pub returns-then-is_in_model : goal.returns-then-is_in_model
unfolding moved
returns-then-is_in_model c = search chain depth 12

pub returns-then-is_in_family : goal.returns-then-is_in_family
unfolding moved
returns-then-is_in_family c = search chain depth 12

pub returns-then-is_in_header : goal.returns-then-is_in_header
unfolding moved
returns-then-is_in_header c = search chain depth 12

pub returns-then-place-eq-SECTION : goal.returns-then-place-eq-SECTION
unfolding moved
returns-then-place-eq-SECTION c = search chain depth 12

pub returns-then-place-eq-AFTER : goal.returns-then-place-eq-AFTER
unfolding moved
returns-then-place-eq-AFTER c = search chain depth 12

pub returns-then-key-eq-ICM_VER : goal.returns-then-key-eq-ICM_VER
unfolding moved
returns-then-key-eq-ICM_VER c = search chain depth 12

pub returns-then-place-eq-OPENED : goal.returns-then-place-eq-OPENED
unfolding moved
returns-then-place-eq-OPENED c = search chain depth 12

pub returns-then-key-eq-BEGIN_ICM_FAMILY : goal.returns-then-key-eq-BEGIN_ICM_FAMILY
unfolding moved
returns-then-key-eq-BEGIN_ICM_FAMILY c = search chain depth 12 fits 4000

pub returns-then-place-eq-BETWEEN : goal.returns-then-place-eq-BETWEEN
unfolding moved
returns-then-place-eq-BETWEEN c = search chain depth 12 fits 4000

pub returns-then-key-eq-DERIVATION_METHOD : goal.returns-then-key-eq-DERIVATION_METHOD
unfolding moved
returns-then-key-eq-DERIVATION_METHOD c = search chain depth 12 fits 4000

pub returns-then-place-eq-SECTION_HEAD : goal.returns-then-place-eq-SECTION_HEAD
unfolding moved
returns-then-place-eq-SECTION_HEAD c = search chain depth 12 fits 4000

pub returns-then-key-eq-BEGIN_HEADER : goal.returns-then-key-eq-BEGIN_HEADER
unfolding moved
returns-then-key-eq-BEGIN_HEADER c = search chain depth 12 fits 4000

pub returns-then-place-eq-BEFORE : goal.returns-then-place-eq-BEFORE
unfolding moved
returns-then-place-eq-BEFORE c = search chain depth 12 fits 4000

pub returns : goal.returns
unfolding moved
returns c = search chain depth 12 fits 4000
