use Rattle.read_path.proofs.PathLaws.{gone_start, gone_ends, line_starts, gone_leaves, gone_stops, gone_on, gone_turns}
use Rattle.read_path.proofs.BlockLaws.{level_start, level_ends, level_leaves, level_breaks, level_turns, level_on}
use Rattle.read_line.proofs.CrossLaws.{crossed_less}
use borrow.Author.Tests.{not-false}
use borrow.Author.Rules.{rules}
use Rattle.read_path.proofs.pass_path.Goals as goal

pub loop-here-init : goal.loop-here-init
loop-here-init c = (search rules, search gone_start, search level_start)

pub take_step-next-requires : goal.take_step-next-requires
take_step-next-requires c = (search line_starts, search rules)

pub returns-then-not-next : goal.returns-then-not-next
returns-then-not-next c = (gone_leaves _ _ _ _ _ _ _ _ _ _ c.loop-here.invariant.1 c.loop-here-test.true _ c.line_at-ends.ensures _ _ c.take_step-next.ensures c.if-not-next.true, level_leaves _ _ _ _ _ c.loop-here.invariant.1.whole c.loop-here.invariant.2 _ _ _ c.take_step-next.ensures c.if-not-next.true)

pub returns-then-part-ne0 : goal.returns-then-part-ne0
returns-then-part-ne0 c = (search (gone_stops, not-false), level_breaks _ _ _ c.loop-here.invariant.2 c.loop-here-test.true _ c.line_at-ends.ensures _ _ _ c.take_step-next.ensures (not-false _ c.if-not-next.false) c.if-part-ne0.true)

pub returns-then-reached-depth : goal.returns-then-reached-depth
returns-then-reached-depth c = (search (gone_turns, not-false), level_turns _ _ _ c.loop-here.invariant.2 c.loop-here-test.true _ c.line_at-ends.ensures _ _ _ c.take_step-next.ensures (not-false _ c.if-not-next.false) c.if-part-ne0.false c.if-reached-depth.true)

pub loop-here-smaller : goal.loop-here-smaller
loop-here-smaller c = search crossed_less

pub loop-here-preserved : goal.loop-here-preserved
loop-here-preserved c = (search rules, search (gone_on, not-false), level_on _ _ _ c.loop-here.invariant.2 c.loop-here-test.true _ c.line_at-ends.ensures _ _ _ c.take_step-next.ensures (not-false _ c.if-not-next.false) c.if-part-ne0.false c.if-reached-depth.false)

pub returns : goal.returns
returns c = (search gone_ends, search level_ends)
