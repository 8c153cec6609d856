-- `line_head::is_out_of_order` meets its contract: each `return` by the tests that led there.
-- Assumes nothing.
use Rattle.line_head.specs.Head.{is_head_out_of_order}
use Rattle.base.specs.If.{either, both, provided◌then◌else◌}
use Rattle.base.specs.Bytes.{within}
use Rattle.std.proofs.Common.{arith}
use Rattle.std.proofs.lemmas.Bool.Decides.{nat_tests}
use Rattle.line_head.proofs.is_out_of_order.Goals as goal

pub returns-in-1 : goal.returns-in-1
unfolding is_head_out_of_order either both within provided◌then◌else◌
returns-in-1 c = grind (arith, nat_tests)

pub returns-in-2 : goal.returns-in-2
unfolding is_head_out_of_order either both within provided◌then◌else◌
returns-in-2 c = grind (arith, nat_tests)

pub returns-in-3 : goal.returns-in-3
unfolding is_head_out_of_order either both within provided◌then◌else◌
returns-in-3 c = grind (arith, nat_tests)

pub returns-in_default : goal.returns-in_default
unfolding is_head_out_of_order either both within provided◌then◌else◌
returns-in_default c = grind (arith, nat_tests)
