-- `ask_sound::depth_stays` meets its contract: each `return` by the tests that led there.
-- Assumes nothing.
use Rattle.base.proofs.IfLaws.{chain}
use Rattle.ask_sound.specs.Sound.{depth_stays}
use Rattle.ask_sound.proofs.depth_stays.Goals as goal

pub returns-then-kind-eq-FORK : goal.returns-then-kind-eq-FORK
unfolding depth_stays
returns-then-kind-eq-FORK c = search chain

pub returns-then-kind-eq-ENDFORK : goal.returns-then-kind-eq-ENDFORK
unfolding depth_stays
returns-then-kind-eq-ENDFORK c = search chain

pub returns : goal.returns
unfolding depth_stays
returns c = search chain
