-- `line_map::takes_no_size` meets its contract: each `return` by the tests that led there.
-- Assumes nothing.
use Rattle.base.specs.If.{either, both, provided◌then◌else◌}
use Rattle.base.specs.Bytes.{within}
use Rattle.std.proofs.Common.{arith}
use Rattle.std.proofs.lemmas.Bool.Decides.{nat_tests}
use Rattle.line_map.proofs.takes_no_size.Goals as goal

pub returns-then-not-is_ordered : goal.returns-then-not-is_ordered
unfolding either both within provided◌then◌else◌
returns-then-not-is_ordered c = grind (arith, nat_tests)

pub returns-else-not-is_ordered : goal.returns-else-not-is_ordered
unfolding either both within provided◌then◌else◌
returns-else-not-is_ordered c = grind (arith, nat_tests)
