-- `read_line::map_step` meets its contract: the rule, then what is remembered.
-- Assumes nothing.
use Rattle.read_line.proofs.StepLaws.{map_stops, map_goes}
use Rattle.read_line.proofs.map_step.Goals as goal

pub returns-then-rule-ne0 : goal.returns-then-rule-ne0
returns-then-rule-ne0 c = search map_stops

pub returns : goal.returns
returns c = search map_goes
