-- `line_matrix::is_shaped` meets its contract: by the form.
-- Assumes nothing.
use Rattle.line_matrix.specs.Matrix.{is_shaped}
use Rattle.base.specs.If.{either, both, provided◌then◌else◌}
use Rattle.base.specs.Bytes.{within}
use Rattle.std.proofs.Common.{arith}
use Rattle.std.proofs.lemmas.Bool.Decides.{nat_tests}
use Rattle.line_matrix.proofs.is_shaped.Goals as goal

pub returns-in-0 : goal.returns-in-0
unfolding is_shaped either both within provided◌then◌else◌
returns-in-0 c = grind (arith, nat_tests)

pub returns-in-2 : goal.returns-in-2
unfolding is_shaped either both within provided◌then◌else◌
returns-in-2 c = grind (arith, nat_tests)

pub returns-then-stands_above : goal.returns-then-stands_above
unfolding is_shaped either both within provided◌then◌else◌
returns-then-stands_above c = grind (arith, nat_tests)

pub returns-else-stands_above : goal.returns-else-stands_above
unfolding is_shaped either both within provided◌then◌else◌
returns-else-stands_above c = grind (arith, nat_tests)
