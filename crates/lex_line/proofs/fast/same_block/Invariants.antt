use Rattle.std.proofs.Common.{◌≡◌, drop}
use Rattle.base.specs.If.{both}
use Rattle.base.specs.Runs.{same}
use Rattle.lex_line.proofs.fast.same_block.Given as goal

-- what it has found and the bytes that are left give the whole
abbrev pub invariant-loop-i : goal.invariant-loop-i
invariant-loop-i l = both l.whole (same (drop l.i l.a) (drop l.i l.b)) ≡ same l.a l.b
