-- `ask_sound::is_inside` meets its contract: each `return` by the tests that led there.
-- Assumes nothing.
use Rattle.base.proofs.IfLaws.{chain}
use Rattle.doc.specs.Holds.{is_in_upper_half}
use Rattle.ask_sound.proofs.is_inside.Goals as goal

pub returns-then-value-lt1 : goal.returns-then-value-lt1
unfolding is_in_upper_half
returns-then-value-lt1 c = search chain

pub returns-then-value : goal.returns-then-value
unfolding is_in_upper_half
returns-then-value c = search chain

pub returns : goal.returns
unfolding is_in_upper_half
returns c = search chain
