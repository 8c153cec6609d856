-- `read_sections::kind_of` meets its contract.
-- Assumes nothing.
use Rattle.base.proofs.IfLaws.{chain}
use Rattle.doc.specs.Document.{kind_of}
use Rattle.read_sections.proofs.kind_of.Goals as goal

pub returns-then-key-eq-RESISTANCE_MATRIX : goal.returns-then-key-eq-RESISTANCE_MATRIX
unfolding kind_of
returns-then-key-eq-RESISTANCE_MATRIX c = search chain

pub returns-then-key-eq-INDUCTANCE_MATRIX : goal.returns-then-key-eq-INDUCTANCE_MATRIX
unfolding kind_of
returns-then-key-eq-INDUCTANCE_MATRIX c = search chain

pub returns-then-key-eq-CONDUCTANCE_MATRIX : goal.returns-then-key-eq-CONDUCTANCE_MATRIX
unfolding kind_of
returns-then-key-eq-CONDUCTANCE_MATRIX c = search chain

pub returns : goal.returns
unfolding kind_of
returns c = search chain
