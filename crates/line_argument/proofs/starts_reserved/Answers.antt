-- `line_argument::starts_reserved` meets its contract: each `return` by the tests that led there.
-- Assumes nothing.
use Rattle.base.specs.If.{either, both}
use Rattle.base.specs.Bytes.{within}
use Rattle.std.proofs.Common.{arith}
use Rattle.std.proofs.lemmas.Bool.Decides.{nat_tests}
use Rattle.line_argument.specs.Way.Reserved.{starts_reserved}
use Rattle.line_argument.proofs.starts_reserved.Goals as goal

pub returns-in-80 : goal.returns-in-80
unfolding starts_reserved either both within
returns-in-80 c = grind (arith, nat_tests)

pub returns-in_default : goal.returns-in_default
unfolding starts_reserved either both within
returns-in_default c = grind (arith, nat_tests)
