-- `out_double::scaled` meets its contract: m is cast with nothing lost, and each branch is the definition's one operation.
-- Assumes nothing.
use native.Mathlib.Omega.{arith}
use Rattle.out_double.proofs.DrawLaws.{holds, divided, multiplied}
use Rattle.out_double.proofs.scaled.Goals as goal

pub int_to_float-exact : goal.int_to_float-exact
int_to_float-exact c = holds _ (omega arith)

pub returns-then-shifted-lt64 : goal.returns-then-shifted-lt64
returns-then-shifted-lt64 c = search divided

pub returns-else-shifted-lt64 : goal.returns-else-shifted-lt64
returns-else-shifted-lt64 c = search multiplied
