-- `line_matrix::are_too_many` meets its contract: the sum is told without forming it.
-- Assumes nothing.
use Rattle.line_matrix.specs.Matrix.{are_too_many}
use Rattle.base.specs.If.{either, both, provided◌then◌else◌}
use Rattle.base.specs.Bytes.{within}
use Rattle.std.proofs.Common.{arith}
use Rattle.std.proofs.lemmas.Bool.Decides.{nat_tests}
use Rattle.line_matrix.proofs.are_too_many.Goals as goal

pub returns-then-values-gt-VALUES : goal.returns-then-values-gt-VALUES
unfolding are_too_many either both within provided◌then◌else◌
returns-then-values-gt-VALUES c = grind (arith, nat_tests)

pub returns-else-values-gt-VALUES : goal.returns-else-values-gt-VALUES
unfolding are_too_many either both within provided◌then◌else◌
returns-else-values-gt-VALUES c = grind (arith, nat_tests)
