-- `read_numbers::next_row` meets its contract.
-- Assumes nothing.
use Rattle.base.proofs.IfLaws.{chain}
use Rattle.doc.specs.Document.{next_row}
use Rattle.read_numbers.proofs.next_row.Goals as goal

pub returns-then-form-eq-DIAGONAL : goal.returns-then-form-eq-DIAGONAL
unfolding next_row
returns-then-form-eq-DIAGONAL c = search chain

pub returns : goal.returns
unfolding next_row
returns c = search chain
