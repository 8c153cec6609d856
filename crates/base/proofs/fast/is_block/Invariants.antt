use Rattle.std.proofs.Common.{◌≡◌, drop}
use Rattle.base.specs.If.{both}
use Rattle.base.specs.Runs.{all}
use Rattle.base.proofs.fast.is_block.Given as goal

-- what it has found and the bytes that are left give the whole
abbrev pub invariant-loop-b : goal.invariant-loop-b
invariant-loop-b g l = both l.whole (all (g.C.ByteClass.holds l.class) (drop l.b-index l.block)) ≡ all (g.C.ByteClass.holds l.class) l.block
