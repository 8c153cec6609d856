-- `ask_sound::depth_after` meets its contract: each `return` by the tests that led there.
-- Assumes nothing.
use Rattle.base.proofs.IfLaws.{chain}
use Rattle.ask_sound.specs.Sound.{depth_after}
use Rattle.ask_sound.proofs.LoopLaws.{none_closed}
use Rattle.ask_sound.proofs.depth_after.Goals as goal

pub returns-then-kind-eq-FORK : goal.returns-then-kind-eq-FORK
unfolding depth_after
returns-then-kind-eq-FORK c = search chain

pub returns-then-depth-eq0 : goal.returns-then-depth-eq0
unfolding depth_after
returns-then-depth-eq0 c = search (chain, none_closed)

pub returns-then-kind-eq-ENDFORK : goal.returns-then-kind-eq-ENDFORK
unfolding depth_after
returns-then-kind-eq-ENDFORK c = search chain

pub returns : goal.returns
unfolding depth_after
returns c = search chain
