use Rattle.std.proofs.Common.{◌+◌, ◌≡◌, ◌≤◌, max, length, drop}
use Rattle.base.specs.Runs.{run}
use Rattle.base.specs.Way.Class.{run_end}
use Rattle.base.proofs.skip.Given as goal

-- the place that it has come to leads to the same end
abbrev pub invariant-loop-i : goal.invariant-loop-i
invariant-loop-i g l = (l.i ≤ max l.from (length l.s)) × (l.i + run (g.C.ByteClass.holds l.class) (drop l.i l.s) ≡ run_end (g.C.ByteClass.holds l.class) l.s l.from)
