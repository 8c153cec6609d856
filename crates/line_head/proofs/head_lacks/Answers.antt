-- `line_head::head_lacks` meets its contract.
-- Assumes nothing.
use Rattle.base.specs.If.{either, both, provided◌then◌else◌}
use Rattle.base.specs.Bytes.{within}
use Rattle.std.proofs.Common.{arith}
use Rattle.std.proofs.lemmas.Bool.Decides.{nat_tests}
use Rattle.line_head.specs.Head.{head_lacks}
use Rattle.line_head.proofs.head_lacks.Goals as goal

pub returns-then-h-eq0 : goal.returns-then-h-eq0
unfolding head_lacks either both within provided◌then◌else◌
returns-then-h-eq0 c = grind (arith, nat_tests)

pub returns-then-h-eq-SLM_GENERAL : goal.returns-then-h-eq-SLM_GENERAL
unfolding head_lacks either both within provided◌then◌else◌
returns-then-h-eq-SLM_GENERAL c = grind (arith, nat_tests)

pub returns-else-h-eq-SLM_GENERAL : goal.returns-else-h-eq-SLM_GENERAL
unfolding head_lacks either both within provided◌then◌else◌
returns-else-h-eq-SLM_GENERAL c = grind (arith, nat_tests)
