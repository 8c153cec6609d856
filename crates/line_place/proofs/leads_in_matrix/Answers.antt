-- `line_place::leads_in_matrix` meets its contract: each `return` by the keywords it was compared with.
-- Assumes nothing.
use Rattle.base.proofs.IfLaws.{chain}
use Rattle.line_place.specs.Place.{leads_in_matrix}
use Rattle.line_place.proofs.leads_in_matrix.Goals as goal

pub returns-then-is_row_or_bandwidth : goal.returns-then-is_row_or_bandwidth
unfolding leads_in_matrix
returns-then-is_row_or_bandwidth c = search chain depth 12

pub returns : goal.returns
unfolding leads_in_matrix
returns c = search chain depth 12
