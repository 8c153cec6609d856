-- `line_matrix::conductors_of` meets its contract: by the form.
-- Assumes nothing.
use Rattle.line_matrix.specs.Matrix.{shape_conductors}
use Rattle.base.specs.If.{either, both, provided◌then◌else◌}
use Rattle.base.specs.Bytes.{within}
use Rattle.std.proofs.Common.{arith}
use Rattle.std.proofs.lemmas.Bool.Decides.{nat_tests}
use Rattle.line_matrix.proofs.conductors_of.Goals as goal

pub returns-in-0 : goal.returns-in-0
unfolding shape_conductors either both within provided◌then◌else◌
returns-in-0 c = grind (arith, nat_tests)

pub returns-in-2 : goal.returns-in-2
unfolding shape_conductors either both within provided◌then◌else◌
returns-in-2 c = grind (arith, nat_tests)

pub returns-in_default : goal.returns-in_default
unfolding shape_conductors either both within provided◌then◌else◌
returns-in_default c = grind (arith, nat_tests)
