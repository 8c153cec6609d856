-- `line_place::leads_in_section` meets its contract: each `return` by the keywords it was compared with.
-- Assumes nothing.
use Rattle.base.proofs.IfLaws.{chain}
use Rattle.line_place.specs.Place.{leads_in_section}
use Rattle.line_place.proofs.leads_in_section.Goals as goal

pub returns-then-opens_matrix : goal.returns-then-opens_matrix
unfolding leads_in_section
returns-then-opens_matrix c = search chain depth 12

pub returns-then-key-eq-END_ICM_SECTION : goal.returns-then-key-eq-END_ICM_SECTION
unfolding leads_in_section
returns-then-key-eq-END_ICM_SECTION c = search chain depth 12

pub returns : goal.returns
unfolding leads_in_section
returns c = search chain depth 12
