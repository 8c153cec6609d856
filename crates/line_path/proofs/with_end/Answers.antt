-- `line_path::with_end` meets its contract: each `return` by the tests that led there.
-- Assumes nothing.
use Rattle.line_path.specs.Path.{with_end}
use Rattle.base.specs.If.{either, both, provided◌then◌else◌}
use Rattle.base.specs.Bytes.{within}
use Rattle.std.proofs.Common.{arith}
use Rattle.std.proofs.lemmas.Bool.Decides.{nat_tests}
use Rattle.line_path.proofs.with_end.Goals as goal

pub returns-then-p-eq-STARTING : goal.returns-then-p-eq-STARTING
unfolding with_end either both within provided◌then◌else◌
returns-then-p-eq-STARTING c = grind (arith, nat_tests)

pub returns-then-p-eq0 : goal.returns-then-p-eq0
unfolding with_end either both within provided◌then◌else◌
returns-then-p-eq0 c = grind (arith, nat_tests)

pub returns-else-p-eq0 : goal.returns-else-p-eq0
unfolding with_end either both within provided◌then◌else◌
returns-else-p-eq0 c = grind (arith, nat_tests)
