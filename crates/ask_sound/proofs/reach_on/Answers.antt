-- `ask_sound::reach_on` meets its contract.
-- Assumes nothing.
use Rattle.ask_sound.proofs.ReachLaws.{reach_outside, reach_last, reach_stops, behind_fits, reach_goes}
use Rattle.ask_sound.proofs.reach_on.Goals as goal

pub returns-then-not-is_inside : goal.returns-then-not-is_inside
returns-then-not-is_inside c = search reach_outside

pub returns-then-many-eq1 : goal.returns-then-many-eq1
returns-then-many-eq1 c = search reach_last

pub returns-then-not-comes_before : goal.returns-then-not-comes_before
returns-then-not-comes_before c = search reach_stops

pub overflow_add-result : goal.overflow_add-result
overflow_add-result c = search behind_fits

pub returns : goal.returns
returns c = search reach_goes
