-- `line_path::stands_alone` meets its contract: each `return` by the tests that led there.
-- Assumes nothing.
use Rattle.base.specs.If.{either, both, provided◌then◌else◌}
use Rattle.base.specs.Bytes.{within}
use Rattle.std.proofs.Common.{arith}
use Rattle.std.proofs.lemmas.Bool.Decides.{nat_tests}
use Rattle.line_path.proofs.stands_alone.Goals as goal

pub returns-then-says-eq-FORK : goal.returns-then-says-eq-FORK
unfolding either both within provided◌then◌else◌
returns-then-says-eq-FORK c = grind (arith, nat_tests)

pub returns-else-says-eq-FORK : goal.returns-else-says-eq-FORK
unfolding either both within provided◌then◌else◌
returns-else-says-eq-FORK c = grind (arith, nat_tests)
