use Rattle.std.proofs.Common.{◌≡◌, length}
use Rattle.base.specs.Runs.{same}
use Rattle.lex_line.proofs.fast.same_by_blocks.Given as goal

-- what is left is the same exactly when the whole is
abbrev pub invariant-loop-x : goal.invariant-loop-x
invariant-loop-x l = (length l.left ≡ length l.right) × (same l.left l.right ≡ same l.a l.b)

abbrev pub decreases-loop-x : goal.decreases-loop-x
decreases-loop-x l = length l.left
