-- `line_keyword::map_after` meets its contract: each `return` by the tests that led there.
-- Assumes nothing.
use Rattle.base.proofs.IfLaws.{chain}
use Rattle.line_keyword.specs.Keywords.{map_after}
use Rattle.line_keyword.proofs.map_after.Goals as goal

pub returns-then-key-eq-ICM_PIN_MAP : goal.returns-then-key-eq-ICM_PIN_MAP
unfolding map_after
returns-then-key-eq-ICM_PIN_MAP c = search chain depth 14 fits 4000

pub returns : goal.returns
unfolding map_after
returns c = search chain depth 14 fits 4000
