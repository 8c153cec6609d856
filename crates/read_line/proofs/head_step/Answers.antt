-- `read_line::head_step` meets its contract: the rule, then what is remembered.
-- Assumes nothing.
use Rattle.read_line.proofs.StepLaws.{head_stops, head_goes}
use Rattle.read_line.proofs.head_step.Goals as goal

pub returns-then-rule-ne0 : goal.returns-then-rule-ne0
returns-then-rule-ne0 c = search head_stops

pub returns : goal.returns
returns c = search head_goes
