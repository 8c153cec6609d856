-- `line_place::leads_in_header` meets its contract: each `return` by the keywords it was compared with.
-- Assumes nothing.
use Rattle.base.proofs.IfLaws.{chain}
use Rattle.line_place.specs.Place.{leads_in_header}
use Rattle.line_place.proofs.leads_in_header.Goals as goal

pub returns-then-stands_in_header : goal.returns-then-stands_in_header
unfolding leads_in_header
returns-then-stands_in_header c = search chain depth 12

pub returns-then-opens_header_text : goal.returns-then-opens_header_text
unfolding leads_in_header
returns-then-opens_header_text c = search chain depth 12

pub returns-then-key-eq-END_HEADER : goal.returns-then-key-eq-END_HEADER
unfolding leads_in_header
returns-then-key-eq-END_HEADER c = search chain depth 12

pub returns : goal.returns
unfolding leads_in_header
returns c = search chain depth 12
