-- `line_matrix::is_too_wide` meets its contract: only a Diagonal_matrix can be.
-- Assumes nothing.
use Rattle.line_matrix.specs.Matrix.{is_too_wide}
use Rattle.base.specs.If.{either, both, provided◌then◌else◌}
use Rattle.base.specs.Bytes.{within}
use Rattle.std.proofs.Common.{arith}
use Rattle.std.proofs.lemmas.Bool.Decides.{nat_tests}
use Rattle.line_matrix.proofs.is_too_wide.Goals as goal

pub returns-then-m-eq-DIAGONAL : goal.returns-then-m-eq-DIAGONAL
unfolding is_too_wide either both within provided◌then◌else◌
returns-then-m-eq-DIAGONAL c = grind (arith, nat_tests)

pub returns-else-m-eq-DIAGONAL : goal.returns-else-m-eq-DIAGONAL
unfolding is_too_wide either both within provided◌then◌else◌
returns-else-m-eq-DIAGONAL c = grind (arith, nat_tests)
