-- `line_map::is_ordered` meets its contract: each `return` by the tests that led there.
-- Assumes nothing.
use Rattle.line_map.specs.PinMap.{is_ordered}
use Rattle.base.specs.If.{either, both, provided◌then◌else◌}
use Rattle.base.specs.Bytes.{within}
use Rattle.std.proofs.Common.{arith}
use Rattle.std.proofs.lemmas.Bool.Decides.{nat_tests}
use Rattle.line_map.proofs.is_ordered.Goals as goal

pub returns-then-m-ge-ROW_ORDERED : goal.returns-then-m-ge-ROW_ORDERED
unfolding is_ordered either both within provided◌then◌else◌
returns-then-m-ge-ROW_ORDERED c = grind (arith, nat_tests)

pub returns-else-m-ge-ROW_ORDERED : goal.returns-else-m-ge-ROW_ORDERED
unfolding is_ordered either both within provided◌then◌else◌
returns-else-m-ge-ROW_ORDERED c = grind (arith, nat_tests)
