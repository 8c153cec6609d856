-- `line_place::opens_matrix` meets its contract.
-- Assumes nothing.
use Rattle.base.proofs.IfLaws.{chain}
use Rattle.line_place.specs.Place.{opens_matrix}
use Rattle.line_place.proofs.opens_matrix.Goals as goal

pub returns-then-key-eq-RESISTANCE_MATRIX : goal.returns-then-key-eq-RESISTANCE_MATRIX
unfolding opens_matrix
returns-then-key-eq-RESISTANCE_MATRIX c = search chain

pub returns-then-key-eq-INDUCTANCE_MATRIX : goal.returns-then-key-eq-INDUCTANCE_MATRIX
unfolding opens_matrix
returns-then-key-eq-INDUCTANCE_MATRIX c = search chain

pub returns-then-key-eq-CONDUCTANCE_MATRIX : goal.returns-then-key-eq-CONDUCTANCE_MATRIX
unfolding opens_matrix
returns-then-key-eq-CONDUCTANCE_MATRIX c = search chain

pub returns : goal.returns
unfolding opens_matrix
returns c = search chain
