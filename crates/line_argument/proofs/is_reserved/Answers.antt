-- `line_argument::is_reserved` meets its contract: each way by the words compared so far.
-- Assumes nothing.
use Rattle.line_argument.specs.Argument.{is_reserved}
use Rattle.line_argument.proofs.ArgumentLaws.{reserved_starts}
use Rattle.base.specs.If.{either}
use Rattle.std.proofs.Common.{arith}
use Rattle.std.proofs.lemmas.Bool.Decides.{nat_tests}
use Rattle.line_argument.proofs.is_reserved.Goals as goal

pub returns-then-same_bytes-3 : goal.returns-then-same_bytes-3
unfolding is_reserved either
returns-then-same_bytes-3 c = grind (arith, nat_tests)

pub returns-else-same_bytes-3 : goal.returns-else-same_bytes-3
unfolding is_reserved either
returns-else-same_bytes-3 c = grind (arith, nat_tests)

pub returns-else-starts_reserved : goal.returns-else-starts_reserved
returns-else-starts_reserved c = search reserved_starts
