-- `line_argument::is_name` meets its contract.
-- Assumes nothing.
use Rattle.line_argument.specs.Argument.{is_name}
use Rattle.base.specs.If.{both}
use Rattle.std.proofs.Common.{arith}
use Rattle.std.proofs.lemmas.Bool.Decides.{nat_tests}
use Rattle.line_argument.proofs.is_name.Goals as goal

pub returns-then-is_one_word : goal.returns-then-is_one_word
unfolding is_name both
returns-then-is_one_word c = grind (arith, nat_tests)

pub returns-else-is_one_word : goal.returns-else-is_one_word
unfolding is_name both
returns-else-is_one_word c = grind (arith, nat_tests)
