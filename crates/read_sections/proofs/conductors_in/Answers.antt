-- `read_sections::conductors_in` meets its contract.
-- Assumes nothing.
use Rattle.base.proofs.IfLaws.{chain}
use Rattle.read_sections.proofs.conductors_in.Goals as goal

pub returns-then-form-eq-DIAGONAL : goal.returns-then-form-eq-DIAGONAL
returns-then-form-eq-DIAGONAL c = search chain

pub returns : goal.returns
returns c = search chain
