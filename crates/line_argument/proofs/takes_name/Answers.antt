-- `line_argument::takes_name` meets its contract: each `return` by the keywords it was compared with.
-- Assumes nothing.
use Rattle.base.specs.If.{either, both}
use Rattle.base.specs.Bytes.{within}
use Rattle.std.proofs.Common.{arith}
use Rattle.std.proofs.lemmas.Bool.Decides.{nat_tests}
use Rattle.line_argument.specs.Argument.{takes_name}
use Rattle.line_argument.proofs.takes_name.Goals as goal

pub returns-in-23 : goal.returns-in-23
unfolding takes_name either both within
returns-in-23 c = grind (arith, nat_tests)

pub returns-in_default : goal.returns-in_default
unfolding takes_name either both within
returns-in_default c = grind (arith, nat_tests)
