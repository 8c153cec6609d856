use Rattle.std.proofs.Common.{length}
use Rattle.base.specs.Way.Class.{RunsOn}
use Rattle.base.proofs.fast.past_blocks.Given as goal

-- the blocks that it has passed are all of the class
abbrev pub invariant-loop-block : goal.invariant-loop-block
invariant-loop-block g l = RunsOn (g.C.ByteClass.holds l.class) l.s l.rest

abbrev pub decreases-loop-block : goal.decreases-loop-block
decreases-loop-block g l = length l.rest
