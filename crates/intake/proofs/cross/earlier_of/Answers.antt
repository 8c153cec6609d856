-- `intake::cross::earlier_of` meets its contract.
-- Assumes nothing.
use Rattle.intake.proofs.CrossLaws.{second_stays, first_alone, second_above, first_above}
use Rattle.intake.proofs.cross.earlier_of.Goals as goal

pub returns-then-a-eq0 : goal.returns-then-a-eq0
returns-then-a-eq0 c = search second_stays

pub returns-then-b-eq0 : goal.returns-then-b-eq0
returns-then-b-eq0 c = search first_alone

pub returns-then-b-a : goal.returns-then-b-a
returns-then-b-a c = search second_above

pub returns : goal.returns
returns c = search first_above
