-- `line_matrix::stands_above` meets its contract.
-- Assumes nothing.
use Rattle.base.specs.If.{either, both, provided◌then◌else◌}
use Rattle.base.specs.Bytes.{within}
use Rattle.std.proofs.Common.{arith}
use Rattle.std.proofs.lemmas.Bool.Decides.{nat_tests}
use Rattle.line_matrix.specs.Matrix.{stands_above}
use Rattle.line_matrix.proofs.stands_above.Goals as goal

pub returns-then-m-lt2 : goal.returns-then-m-lt2
unfolding stands_above either both within provided◌then◌else◌
returns-then-m-lt2 c = grind (arith, nat_tests)

pub returns-else-m-lt2 : goal.returns-else-m-lt2
unfolding stands_above either both within provided◌then◌else◌
returns-else-m-lt2 c = grind (arith, nat_tests)
