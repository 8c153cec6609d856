use native.Mathlib.Omega.{arith}
use borrow.Author.Rules.{rules}
use Rattle.read_path.proofs.PathLaws.{gone_start, gone_within, gone_counted, goes_after, after_counted, goes_inner, gone_inner, inner_less}
use Rattle.read_path.proofs.BlockLaws.{level_start, block_breaks, block_ends, inner_ahead, inner_breaks, inner_stops, inner_closes}
use Rattle.read_path.proofs.+pass_block.Goals as goal

pub loop-path-init : goal.loop-path-init
loop-path-init t c = (search rules, search gone_start, search level_start)

pub pass_path-walk-requires : goal.pass_path-walk-requires
pass_path-walk-requires t c = search (rules, gone_within, gone_counted)

pub returns-then-come-ne0 : goal.returns-then-come-ne0
returns-then-come-ne0 t c = (goes_after _ _ _ _ _ _ _ _ _ _ c.loop-path.invariant.1 _ _ c.pass_path-walk.ensures.0, block_breaks _ _ _ c.loop-path.invariant.2 _ c.pass_path-walk.ensures.1 c.if-come-ne0.true)

pub returns-then-reached-path : goal.returns-then-reached-path
returns-then-reached-path t c = (goes_after _ _ _ _ _ _ _ _ _ _ c.loop-path.invariant.1 _ _ c.pass_path-walk.ensures.0, block_ends _ _ _ c.loop-path.invariant.2 _ c.pass_path-walk.ensures.1 c.if-come-ne0.false (omega arith))

pub pass_block-inner-requires : goal.pass_block-inner-requires
pass_block-inner-requires t c = search (rules, after_counted)

pub returns-then-inside-ne0 : goal.returns-then-inside-ne0
returns-then-inside-ne0 t c = (goes_inner _ _ _ _ _ _ _ _ _ _ c.loop-path.invariant.1 _ _ c.pass_path-walk.ensures.0 c.if-come-ne0.false _ _ c.pass_block-inner.ensures.0, inner_breaks _ _ _ c.loop-path.invariant.2 _ c.pass_path-walk.ensures.1 c.if-come-ne0.false c.if-reached-path.false _ c.pass_block-inner.ensures.1 c.if-inside-ne0.true)

pub returns-then-path-after : goal.returns-then-path-after
returns-then-path-after t c = (goes_inner _ _ _ _ _ _ _ _ _ _ c.loop-path.invariant.1 _ _ c.pass_path-walk.ensures.0 c.if-come-ne0.false _ _ c.pass_block-inner.ensures.0, inner_stops _ _ _ c.loop-path.invariant.2 _ c.pass_path-walk.ensures.1 c.if-come-ne0.false c.if-reached-path.false _ c.pass_block-inner.ensures.1 c.if-inside-ne0.false c.if-path-after.true)

pub loop-path-smaller : goal.loop-path-smaller
loop-path-smaller t c = inner_less _ _ _ _ _ _ _ _ _ _ c.loop-path.invariant.1 _ _ c.pass_path-walk.ensures.0 c.if-come-ne0.false _ _ c.pass_block-inner.ensures.0 (inner_ahead _ _ _ c.loop-path.invariant.2 _ c.pass_path-walk.ensures.1 c.if-come-ne0.false c.if-reached-path.false)

pub loop-path-preserved : goal.loop-path-preserved
loop-path-preserved t c = (c.loop-path.invariant.0, gone_inner _ _ _ _ _ _ _ _ _ _ c.loop-path.invariant.1 _ _ c.pass_path-walk.ensures.0 c.if-come-ne0.false _ _ c.pass_block-inner.ensures.0 c.if-inside-ne0.false, inner_closes _ _ _ c.loop-path.invariant.2 _ c.pass_path-walk.ensures.1 c.if-come-ne0.false c.if-reached-path.false _ c.pass_block-inner.ensures.1 c.if-inside-ne0.false c.if-path-after.false)
