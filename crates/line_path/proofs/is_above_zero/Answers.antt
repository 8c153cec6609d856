-- `line_path::is_above_zero` meets its contract: each `return` by the tests that led there.
-- Assumes nothing.
use Rattle.base.specs.If.{either, both, provided◌then◌else◌}
use Rattle.base.specs.Bytes.{within}
use Rattle.std.proofs.Common.{arith}
use Rattle.std.proofs.lemmas.Bool.Decides.{nat_tests}
use Rattle.line_path.proofs.is_above_zero.Goals as goal

pub returns-then-word-ne-ZERO_WORD : goal.returns-then-word-ne-ZERO_WORD
unfolding either both within provided◌then◌else◌
returns-then-word-ne-ZERO_WORD c = grind (arith, nat_tests)

pub returns-else-word-ne-ZERO_WORD : goal.returns-else-word-ne-ZERO_WORD
unfolding either both within provided◌then◌else◌
returns-else-word-ne-ZERO_WORD c = grind (arith, nat_tests)
