-- `line_path::is_bad_fork` meets its contract: each arm by what the line says.
-- Assumes nothing.
use Rattle.base.specs.If.{either, both, provided◌then◌else◌}
use Rattle.std.proofs.Common.{arith}
use Rattle.std.proofs.lemmas.Bool.Decides.{nat_tests}
use Rattle.line_path.specs.Path.{is_bad_fork}
use Rattle.line_path.proofs.is_bad_fork.Goals as goal

pub returns-in-4 : goal.returns-in-4
unfolding is_bad_fork either both provided◌then◌else◌
returns-in-4 c = grind (arith, nat_tests)

pub returns-in-5 : goal.returns-in-5
unfolding is_bad_fork either both provided◌then◌else◌
returns-in-5 c = grind (arith, nat_tests)

pub returns-in_default : goal.returns-in_default
unfolding is_bad_fork either both provided◌then◌else◌
returns-in_default c = grind (arith, nat_tests)
