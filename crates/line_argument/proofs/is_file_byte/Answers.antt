-- `line_argument::is_file_byte` meets its contract: each `return` by the tests that led there.
-- Assumes nothing.
use Rattle.base.specs.If.{either, both}
use Rattle.base.specs.Bytes.{within}
use Rattle.std.proofs.Common.{arith}
use Rattle.std.proofs.lemmas.Bool.Decides.{nat_tests}
use Rattle.line_argument.specs.Argument.{is_file_byte}
use Rattle.line_argument.proofs.is_file_byte.Goals as goal

pub returns-then-b-eq95 : goal.returns-then-b-eq95
unfolding is_file_byte either both within
returns-then-b-eq95 c = grind (arith, nat_tests)

pub returns-else-b-eq95 : goal.returns-else-b-eq95
unfolding is_file_byte either both within
returns-else-b-eq95 c = grind (arith, nat_tests)
