-- `line_matrix::still_fits` meets its contract: each `return` by the tests that led there.
-- Assumes nothing.
use Rattle.line_matrix.specs.Matrix.{still_fits}
use Rattle.base.specs.If.{either, both, provided◌then◌else◌}
use Rattle.base.specs.Bytes.{within}
use Rattle.std.proofs.Common.{arith}
use Rattle.std.proofs.lemmas.Bool.Decides.{nat_tests}
use Rattle.line_matrix.proofs.still_fits.Goals as goal

pub returns-then-m-eq-SPARSE : goal.returns-then-m-eq-SPARSE
unfolding still_fits either both within provided◌then◌else◌
returns-then-m-eq-SPARSE c = grind (arith, nat_tests)

pub returns-else-m-eq-SPARSE : goal.returns-else-m-eq-SPARSE
unfolding still_fits either both within provided◌then◌else◌
returns-else-m-eq-SPARSE c = grind (arith, nat_tests)

pub returns-else-m : goal.returns-else-m
unfolding still_fits either both within provided◌then◌else◌
returns-else-m c = grind (arith, nat_tests)
