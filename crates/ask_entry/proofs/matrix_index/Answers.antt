-- `ask_entry::matrix_index` meets its contract.
-- Assumes nothing.
use Rattle.base.proofs.IfLaws.{chain}
use Rattle.ask_entry.specs.Entry.{matrix_index}
use Rattle.ask_entry.proofs.matrix_index.Goals as goal

pub returns-then-kind-eq-RESISTANCE : goal.returns-then-kind-eq-RESISTANCE
unfolding matrix_index
returns-then-kind-eq-RESISTANCE c = search chain

pub returns-then-kind-eq-INDUCTANCE : goal.returns-then-kind-eq-INDUCTANCE
unfolding matrix_index
returns-then-kind-eq-INDUCTANCE c = search chain

pub returns-then-kind-eq-CONDUCTANCE : goal.returns-then-kind-eq-CONDUCTANCE
unfolding matrix_index
returns-then-kind-eq-CONDUCTANCE c = search chain

pub returns : goal.returns
unfolding matrix_index
returns c = search chain
