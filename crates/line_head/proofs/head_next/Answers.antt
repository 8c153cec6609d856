-- `line_head::head_next` meets its contract: each `return` by what the line says.
-- Assumes nothing.
use Rattle.line_head.specs.Head.{head_next}
use Rattle.base.specs.If.{either, both, provided◌then◌else◌}
use Rattle.base.specs.Bytes.{within}
use Rattle.std.proofs.Common.{arith}
use Rattle.std.proofs.lemmas.Bool.Decides.{nat_tests}
use Rattle.line_head.proofs.head_next.Goals as goal

pub returns-in-1 : goal.returns-in-1
unfolding head_next either both within provided◌then◌else◌
returns-in-1 c = grind (arith, nat_tests)

pub returns-in-2 : goal.returns-in-2
unfolding head_next either both within provided◌then◌else◌
returns-in-2 c = grind (arith, nat_tests)

pub returns-in-3 : goal.returns-in-3
unfolding head_next either both within provided◌then◌else◌
returns-in-3 c = grind (arith, nat_tests)

pub returns-in_default : goal.returns-in_default
unfolding head_next either both within provided◌then◌else◌
returns-in_default c = grind (arith, nat_tests)
