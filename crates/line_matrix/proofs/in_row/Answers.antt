-- `line_matrix::in_row` meets its contract: the values since the row's start.
-- Assumes nothing.
use Rattle.line_matrix.specs.Matrix.{in_row}
use Rattle.base.specs.If.{either, both, provided◌then◌else◌}
use Rattle.base.specs.Bytes.{within}
use Rattle.std.proofs.Common.{arith}
use Rattle.std.proofs.lemmas.Bool.Decides.{nat_tests}
use Rattle.line_matrix.proofs.in_row.Goals as goal

pub returns : goal.returns
unfolding in_row either both within provided◌then◌else◌
returns c = grind (arith, nat_tests)
