-- `line_place::moved_by_line` meets its contract: a line opens the pins above them, and nothing else.
-- Assumes nothing.
use Rattle.base.proofs.IfLaws.{chain}
use Rattle.line_place.specs.Place.{moved_by_line}
use Rattle.line_place.proofs.moved_by_line.Goals as goal

pub returns-then-same_bytes : goal.returns-then-same_bytes
unfolding moved_by_line
returns-then-same_bytes c = search chain depth 12

pub returns-then-place-eq-MAP_HEAD : goal.returns-then-place-eq-MAP_HEAD
unfolding moved_by_line
returns-then-place-eq-MAP_HEAD c = search chain depth 12

pub returns : goal.returns
unfolding moved_by_line
returns c = search chain depth 12
