-- `line_path::path_next` meets its contract: each arm by what the line says.
-- Assumes nothing.
use Rattle.base.specs.If.{either, both, provided◌then◌else◌}
use Rattle.std.proofs.Common.{arith}
use Rattle.std.proofs.lemmas.Bool.Decides.{nat_tests}
use Rattle.line_path.specs.Path.{path_next}
use Rattle.line_path.proofs.path_next.Goals as goal

pub returns-in-1 : goal.returns-in-1
unfolding path_next either both provided◌then◌else◌
returns-in-1 c = grind (arith, nat_tests)

pub returns-in-3 : goal.returns-in-3
unfolding path_next either both provided◌then◌else◌
returns-in-3 c = grind (arith, nat_tests)

pub returns-in-4 : goal.returns-in-4
unfolding path_next either both provided◌then◌else◌
returns-in-4 c = grind (arith, nat_tests)

pub returns-in-5 : goal.returns-in-5
unfolding path_next either both provided◌then◌else◌
returns-in-5 c = grind (arith, nat_tests)

pub returns-in_default : goal.returns-in_default
unfolding path_next either both provided◌then◌else◌
returns-in_default c = grind (arith, nat_tests)
