-- `line_argument::takes_nothing` meets its contract: each `return` by the keywords it was compared with.
-- Assumes nothing.
use Rattle.base.specs.If.{either, both}
use Rattle.base.specs.Bytes.{within}
use Rattle.std.proofs.Common.{arith}
use Rattle.std.proofs.lemmas.Bool.Decides.{nat_tests}
use Rattle.line_argument.specs.Argument.{takes_nothing}
use Rattle.line_argument.proofs.takes_nothing.Goals as goal

pub returns-in_default : goal.returns-in_default
unfolding takes_nothing either both within
returns-in_default c = grind (arith, nat_tests)

pub returns-in_default-2 : goal.returns-in_default-2
unfolding takes_nothing either both within
returns-in_default-2 c = grind (arith, nat_tests)

pub returns-in-15 : goal.returns-in-15
unfolding takes_nothing either both within
returns-in-15 c = grind (arith, nat_tests)

pub returns-in-15-2 : goal.returns-in-15-2
unfolding takes_nothing either both within
returns-in-15-2 c = grind (arith, nat_tests)
