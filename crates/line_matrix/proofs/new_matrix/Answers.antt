-- `line_matrix::new_matrix` meets its contract: only a Full_matrix knows its band from the start.
-- Assumes nothing.
use Rattle.line_matrix.specs.Matrix.{new_matrix}
use Rattle.base.specs.If.{either, both, provided◌then◌else◌}
use Rattle.base.specs.Bytes.{within}
use Rattle.std.proofs.Common.{arith}
use Rattle.std.proofs.lemmas.Bool.Decides.{nat_tests}
use Rattle.line_matrix.proofs.new_matrix.Goals as goal

pub returns-then-form-eq-FULL : goal.returns-then-form-eq-FULL
unfolding new_matrix either both within provided◌then◌else◌
returns-then-form-eq-FULL c = grind (arith, nat_tests)

pub returns-else-form-eq-FULL : goal.returns-else-form-eq-FULL
unfolding new_matrix either both within provided◌then◌else◌
returns-else-form-eq-FULL c = grind (arith, nat_tests)
