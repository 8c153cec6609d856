-- `line_argument::is_bad_form` meets its contract: each `return` by the keywords it was compared with.
-- Assumes nothing.
use Rattle.base.specs.If.{provided◌then◌else◌}
use Rattle.base.proofs.IfLaws.{chain}
use Rattle.line_argument.specs.Argument.{is_bad_form}
use Rattle.line_argument.proofs.is_bad_form.Goals as goal

pub returns-in-6 : goal.returns-in-6
unfolding is_bad_form provided◌then◌else◌
returns-in-6 c = rw c.in-6.is (search chain depth 12 fits 4000)

pub returns-in-8 : goal.returns-in-8
unfolding is_bad_form provided◌then◌else◌
returns-in-8 c = rw c.in-8.is (search chain depth 12 fits 4000)

pub returns-in-2 : goal.returns-in-2
unfolding is_bad_form provided◌then◌else◌
returns-in-2 c = rw c.in-2.is (search chain depth 12 fits 4000)

pub returns-in-27 : goal.returns-in-27
unfolding is_bad_form provided◌then◌else◌
returns-in-27 c = rw c.in-27.is (search chain depth 12 fits 4000)

pub returns-in_default : goal.returns-in_default
unfolding is_bad_form provided◌then◌else◌
returns-in_default c = search chain depth 12 fits 4000
