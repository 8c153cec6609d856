-- `line_place::is_row_or_bandwidth` meets its contract: each `return` by the keywords it was compared with.
-- Assumes nothing.
use Rattle.base.proofs.IfLaws.{chain}
use Rattle.line_place.specs.Place.{is_row_or_bandwidth}
use Rattle.line_place.proofs.is_row_or_bandwidth.Goals as goal

pub returns-then-key-eq-ROW : goal.returns-then-key-eq-ROW
unfolding is_row_or_bandwidth
returns-then-key-eq-ROW c = search chain depth 12

pub returns : goal.returns
unfolding is_row_or_bandwidth
returns c = search chain depth 12
