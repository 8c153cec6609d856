-- `line_matrix::data_line` meets its contract: by the form.
-- Assumes nothing.
use Rattle.line_matrix.specs.Matrix.{data_line_of}
use Rattle.base.specs.If.{either, both, provided◌then◌else◌}
use Rattle.base.specs.Bytes.{within}
use Rattle.std.proofs.Common.{arith}
use Rattle.std.proofs.lemmas.Bool.Decides.{nat_tests}
use Rattle.line_matrix.proofs.data_line.Goals as goal

pub returns-then-form-eq-SPARSE : goal.returns-then-form-eq-SPARSE
unfolding data_line_of either both within provided◌then◌else◌
returns-then-form-eq-SPARSE c = grind (arith, nat_tests)

pub returns-else-form-eq-SPARSE : goal.returns-else-form-eq-SPARSE
unfolding data_line_of either both within provided◌then◌else◌
returns-else-form-eq-SPARSE c = grind (arith, nat_tests)
