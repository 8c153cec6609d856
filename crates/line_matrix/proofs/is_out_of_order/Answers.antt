-- `line_matrix::is_out_of_order` meets its contract: each `return` by the tests that led there.
-- Assumes nothing.
use Rattle.line_matrix.specs.Matrix.{is_data_out_of_order}
use Rattle.base.specs.If.{either, both, provided◌then◌else◌}
use Rattle.base.specs.Bytes.{within}
use Rattle.std.proofs.Common.{arith}
use Rattle.std.proofs.lemmas.Bool.Decides.{nat_tests}
use Rattle.line_matrix.proofs.is_out_of_order.Goals as goal

pub returns-then-not-l : goal.returns-then-not-l
unfolding is_data_out_of_order either both within provided◌then◌else◌
returns-then-not-l c = grind (arith, nat_tests)

pub returns-then-m-ne-DIAGONAL : goal.returns-then-m-ne-DIAGONAL
unfolding is_data_out_of_order either both within provided◌then◌else◌
returns-then-m-ne-DIAGONAL c = grind (arith, nat_tests)

pub returns-else-m-ne-DIAGONAL : goal.returns-else-m-ne-DIAGONAL
unfolding is_data_out_of_order either both within provided◌then◌else◌
returns-else-m-ne-DIAGONAL c = grind (arith, nat_tests)
