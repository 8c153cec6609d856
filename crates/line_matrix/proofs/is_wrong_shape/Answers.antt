-- `line_matrix::is_wrong_shape` meets its contract: each `return` by the tests that led there.
-- Assumes nothing.
use Rattle.line_matrix.specs.Matrix.{is_wrong_shape}
use Rattle.base.specs.If.{either, both, provided◌then◌else◌}
use Rattle.base.specs.Bytes.{within}
use Rattle.std.proofs.Common.{arith}
use Rattle.std.proofs.lemmas.Bool.Decides.{nat_tests}
use Rattle.line_matrix.proofs.is_wrong_shape.Goals as goal

pub returns-then-not-is_shaped : goal.returns-then-not-is_shaped
unfolding is_wrong_shape either both within provided◌then◌else◌
returns-then-not-is_shaped c = grind (arith, nat_tests)

pub returns-then-known-ne0 : goal.returns-then-known-ne0
unfolding is_wrong_shape either both within provided◌then◌else◌
returns-then-known-ne0 c = grind (arith, nat_tests)

pub returns-else-known-ne0 : goal.returns-else-known-ne0
unfolding is_wrong_shape either both within provided◌then◌else◌
returns-else-known-ne0 c = grind (arith, nat_tests)
