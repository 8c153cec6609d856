-- `line_map::given` meets its contract: each `return` by the tests that led there.
-- Assumes nothing.
use Rattle.base.specs.If.{either, both, provided◌then◌else◌}
use Rattle.base.specs.Bytes.{within}
use Rattle.std.proofs.Common.{arith}
use Rattle.std.proofs.lemmas.Bool.Decides.{nat_tests}
use Rattle.line_map.proofs.given.Goals as goal

pub returns-then-l-asked : goal.returns-then-l-asked
unfolding either both within provided◌then◌else◌
returns-then-l-asked c = grind (arith, nat_tests)

pub returns-else-l-asked : goal.returns-else-l-asked
unfolding either both within provided◌then◌else◌
returns-else-l-asked c = grind (arith, nat_tests)
