-- `line_argument::is_one_word` meets its contract: a run of such bytes over the whole.
-- Assumes nothing.
use Rattle.base.specs.If.{both}
use Rattle.line_argument.specs.Argument.{is_one_word}
use Rattle.line_argument.proofs.ArgumentLaws.{one_word}
use Rattle.std.proofs.Common.{arith}
use Rattle.std.proofs.lemmas.Bool.Decides.{nat_tests}
use Rattle.line_argument.proofs.is_one_word.Goals as goal

pub returns-then-s-gt0 : goal.returns-then-s-gt0
returns-then-s-gt0 c = search one_word

pub returns-else-s-gt0 : goal.returns-else-s-gt0
unfolding is_one_word both
returns-else-s-gt0 c = grind (arith, nat_tests)
