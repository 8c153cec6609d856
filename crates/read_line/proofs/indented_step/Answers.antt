-- `read_line::indented_step` meets its contract: by the place.
-- Assumes nothing.
use Rattle.read_line.proofs.StepLaws.{text_elsewhere}
use Rattle.base.proofs.IfLaws.{chain}
use Rattle.read_line.proofs.indented_step.Goals as goal

pub line_step-requires : goal.line_step-requires
line_step-requires c = search text_elsewhere

pub returns-then-is_text : goal.returns-then-is_text
returns-then-is_text c = search chain

pub returns : goal.returns
returns c = search chain
