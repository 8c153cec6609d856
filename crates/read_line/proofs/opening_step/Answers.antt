-- `read_line::opening_step` meets its contract: by the keyword.
-- Assumes nothing.
use Rattle.base.proofs.IfLaws.{chain}
use Rattle.read_line.proofs.opening_step.Goals as goal

pub returns-then-key-eq-BEGIN_HEADER : goal.returns-then-key-eq-BEGIN_HEADER
returns-then-key-eq-BEGIN_HEADER c = search chain

pub returns : goal.returns
returns c = search chain
