-- `read_line::list_step` meets its contract: by the first word.
-- Assumes nothing.
use Rattle.read_line.proofs.StepLaws.{list_stops, list_goes}
use Rattle.read_line.proofs.list_step.Goals as goal

pub returns-then-is_reserved : goal.returns-then-is_reserved
returns-then-is_reserved c = search list_stops

pub returns : goal.returns
returns c = search list_goes
