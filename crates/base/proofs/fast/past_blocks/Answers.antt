use Rattle.std.proofs.Common.{rules, tests}
use Rattle.std.proofs.option.Match.{if_some}
use native.Mathlib.Omega.{arith}
use Rattle.base.proofs.RunLaws.{runs_block}
use Rattle.base.proofs.fast.past_blocks.Goals as goal

pub loop-block-preserved : goal.loop-block-preserved
loop-block-preserved g c =
    let parts = if_some _ _ _ c.in-Some.is c.split_first_chunk.ensures.cases in
    runs_block _ 16 _ _ _ _ c.loop-block.invariant (omega (arith, parts.2)) parts.0 parts.1 (search (rules, tests))
