use Rattle.std.proofs.Common.{rules, arith, length, ◌≤◌}
use Rattle.lex_line.proofs.FeedLaws.{feed_told, feeds_on, feeds_done}
use Rattle.lex_line.proofs.fast.line_feeds_in.Goals as goal

pub overflow_add-count : goal.overflow_add-count
overflow_add-count c = omega (arith, feed_told _ _ c.line_feed_of-count.ensures)

pub loop-b-preserved : goal.loop-b-preserved
loop-b-preserved c = (omega (arith, feed_told _ _ c.line_feed_of-count.ensures), search (rules, feeds_on))

pub returns : goal.returns
returns c =
    let past : length c.args.block.now ≤ c.loop-b.b-index = search rules in
    feeds_done _ _ _ _ c.loop-b.invariant.1 past
