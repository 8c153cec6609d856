-- `read_line::line_step` meets its contract: by the place.
-- Assumes nothing.
use Rattle.read_line.proofs.StepLaws.{text_goes, other_stops}
use Rattle.read_line.proofs.line_step.Goals as goal

pub returns-then-is_text : goal.returns-then-is_text
returns-then-is_text c = search text_goes

pub returns : goal.returns
returns c = other_stops _ _ _ c.requires c.if-s-eq-LIST.false c.if-s-eq-MAP_HEAD.false c.if-s-eq-HEAD.false _ c.is_text.ensures c.if-is_text.false c.stops.ensures
