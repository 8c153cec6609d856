-- `line_matrix::is_wrong_row` meets its contract: each `return` by the tests that led there.
-- Assumes nothing.
use Rattle.line_matrix.specs.Matrix.{is_wrong_row}
use Rattle.base.specs.If.{either, both, provided◌then◌else◌}
use Rattle.base.specs.Bytes.{within}
use Rattle.std.proofs.Common.{arith}
use Rattle.std.proofs.lemmas.Bool.Decides.{nat_tests}
use Rattle.line_matrix.proofs.is_wrong_row.Goals as goal

pub returns-in-0 : goal.returns-in-0
unfolding is_wrong_row either both within provided◌then◌else◌
returns-in-0 c = grind (arith, nat_tests)

pub returns-in-2 : goal.returns-in-2
unfolding is_wrong_row either both within provided◌then◌else◌
returns-in-2 c = grind (arith, nat_tests)

pub returns-then-row-eq0 : goal.returns-then-row-eq0
unfolding is_wrong_row either both within provided◌then◌else◌
returns-then-row-eq0 c = grind (arith, nat_tests)

pub returns-else-row-eq0 : goal.returns-else-row-eq0
unfolding is_wrong_row either both within provided◌then◌else◌
returns-else-row-eq0 c = grind (arith, nat_tests)
