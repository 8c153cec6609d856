-- `line_matrix::is_wrong_bandwidth` meets its contract: each `return` by the tests that led there.
-- Assumes nothing.
use Rattle.line_matrix.specs.Matrix.{is_wrong_bandwidth}
use Rattle.base.specs.If.{either, both, provided◌then◌else◌}
use Rattle.base.specs.Bytes.{within}
use Rattle.std.proofs.Common.{arith}
use Rattle.std.proofs.lemmas.Bool.Decides.{nat_tests}
use Rattle.line_matrix.proofs.is_wrong_bandwidth.Goals as goal

pub returns-then-m-ne0 : goal.returns-then-m-ne0
unfolding is_wrong_bandwidth either both within provided◌then◌else◌
returns-then-m-ne0 c = grind (arith, nat_tests)

pub returns-else-m-ne0 : goal.returns-else-m-ne0
unfolding is_wrong_bandwidth either both within provided◌then◌else◌
returns-else-m-ne0 c = grind (arith, nat_tests)
