-- `cross_rules::writes_at` meets its contract.
-- Assumes nothing.
use Rattle.base.proofs.IfLaws.{chain}
use Rattle.cross_rules.specs.Way.Nth.{writes_at}
use Rattle.cross_rules.proofs.writes_at.Goals as goal

pub returns-then-not-is_in_family : goal.returns-then-not-is_in_family
unfolding writes_at
returns-then-not-is_in_family c = search chain depth 12 fits 4000

pub returns-then-part-eq-MODELS : goal.returns-then-part-eq-MODELS
unfolding writes_at
returns-then-part-eq-MODELS c = search chain depth 12 fits 4000

pub returns-then-not-is_in_family-2 : goal.returns-then-not-is_in_family-2
unfolding writes_at
returns-then-not-is_in_family-2 c = search chain depth 12 fits 4000

pub returns-then-part-eq-MAPS : goal.returns-then-part-eq-MAPS
unfolding writes_at
returns-then-part-eq-MAPS c = search chain depth 12 fits 4000

pub returns-then-place-ne-AFTER : goal.returns-then-place-ne-AFTER
unfolding writes_at
returns-then-place-ne-AFTER c = search chain depth 12 fits 4000

pub returns-then-part-eq-SECTIONS : goal.returns-then-part-eq-SECTIONS
unfolding writes_at
returns-then-part-eq-SECTIONS c = search chain depth 12 fits 4000

pub returns-then-place-ne-PIN_LIST : goal.returns-then-place-ne-PIN_LIST
unfolding writes_at
returns-then-place-ne-PIN_LIST c = search chain depth 12 fits 4000

pub returns : goal.returns
unfolding writes_at
returns c = search chain depth 12 fits 4000
