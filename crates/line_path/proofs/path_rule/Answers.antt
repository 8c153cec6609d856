-- `line_path::path_rule` meets its contract: a closed path has its own rule.
-- Assumes nothing.
use Rattle.line_path.specs.Way.Rule.{open_rule, closed_rule, path_rule}
use Rattle.base.specs.If.{either, both, provided◌then◌else◌}
use Rattle.base.specs.Bytes.{within}
use Rattle.std.proofs.Common.{arith}
use Rattle.std.proofs.lemmas.Bool.Decides.{nat_tests}
use Rattle.line_path.proofs.path_rule.Goals as goal

pub returns-then-p-eq-CLOSED : goal.returns-then-p-eq-CLOSED
unfolding path_rule closed_rule open_rule either both within provided◌then◌else◌
returns-then-p-eq-CLOSED c = grind (arith, nat_tests)

pub returns-else-p-eq-CLOSED : goal.returns-else-p-eq-CLOSED
unfolding path_rule closed_rule open_rule either both within provided◌then◌else◌
returns-else-p-eq-CLOSED c = grind (arith, nat_tests)
