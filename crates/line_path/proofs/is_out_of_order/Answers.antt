-- `line_path::is_out_of_order` meets its contract: each `return` by the tests that led there.
-- Assumes nothing.
use Rattle.line_path.specs.Path.{is_path_out_of_order}
use Rattle.base.specs.If.{either, both, provided◌then◌else◌}
use Rattle.base.specs.Bytes.{within}
use Rattle.std.proofs.Common.{arith}
use Rattle.std.proofs.lemmas.Bool.Decides.{nat_tests}
use Rattle.line_path.proofs.is_out_of_order.Goals as goal

pub returns-in-2 : goal.returns-in-2
unfolding is_path_out_of_order either both within provided◌then◌else◌
returns-in-2 c = grind (arith, nat_tests)

pub returns-then-p-eq-STARTING : goal.returns-then-p-eq-STARTING
unfolding is_path_out_of_order either both within provided◌then◌else◌
returns-then-p-eq-STARTING c = grind (arith, nat_tests)

pub returns-else-p-eq-STARTING : goal.returns-else-p-eq-STARTING
unfolding is_path_out_of_order either both within provided◌then◌else◌
returns-else-p-eq-STARTING c = grind (arith, nat_tests)

pub returns-then-p-lt-ITEMS : goal.returns-then-p-lt-ITEMS
unfolding is_path_out_of_order either both within provided◌then◌else◌
returns-then-p-lt-ITEMS c = grind (arith, nat_tests)

pub returns-else-p-lt-ITEMS : goal.returns-else-p-lt-ITEMS
unfolding is_path_out_of_order either both within provided◌then◌else◌
returns-else-p-lt-ITEMS c = grind (arith, nat_tests)

pub returns-then-p-eq-STARTED : goal.returns-then-p-eq-STARTED
unfolding is_path_out_of_order either both within provided◌then◌else◌
returns-then-p-eq-STARTED c = grind (arith, nat_tests)

pub returns-else-p-eq-STARTED : goal.returns-else-p-eq-STARTED
unfolding is_path_out_of_order either both within provided◌then◌else◌
returns-else-p-eq-STARTED c = grind (arith, nat_tests)

pub returns-in-5 : goal.returns-in-5
unfolding is_path_out_of_order either both within provided◌then◌else◌
returns-in-5 c = grind (arith, nat_tests)

pub returns-in_default : goal.returns-in_default
unfolding is_path_out_of_order either both within provided◌then◌else◌
returns-in_default c = grind (arith, nat_tests)
