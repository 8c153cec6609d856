-- `line_map::takes_no_list` meets its contract: each `return` by the tests that led there.
-- Assumes nothing.
use Rattle.base.specs.If.{either, both, provided◌then◌else◌}
use Rattle.base.specs.Bytes.{within}
use Rattle.std.proofs.Common.{arith}
use Rattle.std.proofs.lemmas.Bool.Decides.{nat_tests}
use Rattle.line_map.proofs.takes_no_list.Goals as goal

pub returns-then-m-eq0 : goal.returns-then-m-eq0
unfolding either both within provided◌then◌else◌
returns-then-m-eq0 c = grind (arith, nat_tests)

pub returns-then-m-eq0-2 : goal.returns-then-m-eq0-2
unfolding either both within provided◌then◌else◌
returns-then-m-eq0-2 c = grind (arith, nat_tests)

pub returns-else-m-eq0-2 : goal.returns-else-m-eq0-2
unfolding either both within provided◌then◌else◌
returns-else-m-eq0-2 c = grind (arith, nat_tests)

pub returns-else-is_ordered : goal.returns-else-is_ordered
unfolding either both within provided◌then◌else◌
returns-else-is_ordered c = grind (arith, nat_tests)
