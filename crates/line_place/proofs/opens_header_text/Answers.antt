-- `line_place::opens_header_text` meets its contract: each `return` by the keywords it was compared with.
-- Assumes nothing.
use Rattle.base.proofs.IfLaws.{chain}
use Rattle.line_place.specs.Place.{opens_header_text}
use Rattle.line_place.proofs.opens_header_text.Goals as goal

pub returns-then-key-eq-SOURCE : goal.returns-then-key-eq-SOURCE
unfolding opens_header_text
returns-then-key-eq-SOURCE c = search chain depth 12

pub returns-then-key-eq-NOTES : goal.returns-then-key-eq-NOTES
unfolding opens_header_text
returns-then-key-eq-NOTES c = search chain depth 12

pub returns-then-key-eq-DISCLAIMER : goal.returns-then-key-eq-DISCLAIMER
unfolding opens_header_text
returns-then-key-eq-DISCLAIMER c = search chain depth 12

pub returns-then-key-eq-COPYRIGHT : goal.returns-then-key-eq-COPYRIGHT
unfolding opens_header_text
returns-then-key-eq-COPYRIGHT c = search chain depth 12

pub returns-then-key-eq-SUPPORT : goal.returns-then-key-eq-SUPPORT
unfolding opens_header_text
returns-then-key-eq-SUPPORT c = search chain depth 12

pub returns : goal.returns
unfolding opens_header_text
returns c = search chain depth 12
