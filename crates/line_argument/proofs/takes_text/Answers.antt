-- `line_argument::takes_text` meets its contract: each `return` by the keywords it was compared with.
-- Assumes nothing.
use Rattle.base.specs.If.{either, both}
use Rattle.base.specs.Bytes.{within}
use Rattle.std.proofs.Common.{arith}
use Rattle.std.proofs.lemmas.Bool.Decides.{nat_tests}
use Rattle.line_argument.specs.Argument.{takes_free_text}
use Rattle.line_argument.proofs.takes_text.Goals as goal

pub returns-in-7 : goal.returns-in-7
unfolding takes_free_text either both within
returns-in-7 c = grind (arith, nat_tests)

pub returns-in_default : goal.returns-in_default
unfolding takes_free_text either both within
returns-in_default c = grind (arith, nat_tests)
