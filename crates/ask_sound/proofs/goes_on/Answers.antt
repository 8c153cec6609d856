-- `ask_sound::goes_on` meets its contract.
-- Assumes nothing.
use Rattle.ask_sound.proofs.LoopLaws.{goes_outside, goes_last, goes_before}
use Rattle.ask_sound.proofs.goes_on.Goals as goal

pub returns-then-not-is_inside : goal.returns-then-not-is_inside
returns-then-not-is_inside c = search goes_outside

pub returns-then-many-eq1 : goal.returns-then-many-eq1
returns-then-many-eq1 c = search goes_last

pub returns : goal.returns
returns c = search goes_before
