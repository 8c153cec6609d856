-- `ask_sound::comes_before` meets its contract: each `return` by the tests that led there.
-- Assumes nothing.
use Rattle.base.proofs.IfLaws.{chain}
use Rattle.doc.specs.Holds.{comes_before}
use Rattle.ask_sound.proofs.comes_before.Goals as goal

pub returns-then-value-next : goal.returns-then-value-next
unfolding comes_before
returns-then-value-next c = search chain

pub returns-then-value-next-2 : goal.returns-then-value-next-2
unfolding comes_before
returns-then-value-next-2 c = search chain

pub returns : goal.returns
unfolding comes_before
returns c = search chain
