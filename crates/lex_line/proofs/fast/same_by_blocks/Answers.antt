use Rattle.std.proofs.Common.{rules, tests, arith, ◌∙◌}
use Rattle.std.proofs.option.Match.{if_some}
use Rattle.lex_line.proofs.SameLaws.{same_passed, same_differs, pointwise_same}
use Rattle.lex_line.proofs.fast.same_by_blocks.Goals as goal

pub returns-then-not-same_block : goal.returns-then-not-same_block
returns-then-not-same_block c =
    let x = if_some _ _ _ c.in-Some-Some.is-0 c.split_first_chunk.ensures.cases in
    let y = if_some _ _ _ c.in-Some-Some.is-1 c.split_first_chunk-in-loop-x.ensures.cases in
    same_differs 16 _ _ _ _ _ _ c.loop-x.invariant.0 c.loop-x.invariant.1 x.0 y.0 c.same_block.ensures (search (rules, tests))

pub loop-x-preserved : goal.loop-x-preserved
loop-x-preserved c =
    let x = if_some _ _ _ c.in-Some-Some.is-0 c.split_first_chunk.ensures.cases in
    let y = if_some _ _ _ c.in-Some-Some.is-1 c.split_first_chunk-in-loop-x.ensures.cases in (
      omega (arith, x.2, y.2, c.loop-x.invariant.0),
      same_passed 16 _ _ _ _ _ _ c.loop-x.invariant.0 c.loop-x.invariant.1 x.0 y.0 c.same_block.ensures _ _ x.1 y.1 (search (rules, tests)),
    )

pub returns : goal.returns
returns c = c.eq.ensures ∙ pointwise_same _ _ ∙ c.loop-x.invariant.1
