use Rattle.std.proofs.Common.{arith, rules, tests, ap, ◌∙◌}
use Rattle.std.proofs.option.Match.{if_some}
use Rattle.base.specs.Runs.{all}
use Rattle.lex_line.specs.Way.LineFeeds.{is_line_byte, line_feeds}
use Rattle.lex_line.proofs.ShortLaws.{running_starts, running_on, running_order, running_ends, block_front}
use Rattle.lex_line.proofs.fast.past_ends.Goals as goal

pub loop-block-init : goal.loop-block-init
loop-block-init c = (omega arith, search running_starts)

pub overflow_sub-here : goal.overflow_sub-here
overflow_sub-here c =
    let parts = if_some _ _ _ c.in-Some.is c.split_first_chunk.ensures.cases in
    let front = block_front c.args.text.now _ c.loop-block.here _ parts.0 parts.2 in
    let told = c.is_block.ensures ∙ ap (all is_line_byte) front.0 in
    let counted = c.line_feeds_in-ends.ensures ∙ ap line_feeds front.0 in
    running_order _ _ _ _ _ c.loop-block.invariant.1 front.1 _ c.requires.1 c.loop-block.invariant.0 _ told (search (rules, tests)) _ counted _ c.last_end-mark.ensures

pub loop-block-preserved : goal.loop-block-preserved
loop-block-preserved c =
    let parts = if_some _ _ _ c.in-Some.is c.split_first_chunk.ensures.cases in
    let front = block_front c.args.text.now _ c.loop-block.here _ parts.0 parts.2 in
    let told = c.is_block.ensures ∙ ap (all is_line_byte) front.0 in
    let counted = c.line_feeds_in-ends.ensures ∙ ap line_feeds front.0 in
    (search rules, rw c.from-count.ensures (running_on _ _ _ _ _ c.loop-block.invariant.1 front.1 _ c.requires.1 c.loop-block.invariant.0 _ told (search (rules, tests)) _ counted _ c.last_end-mark.ensures))

pub returns-then-most-here : goal.returns-then-most-here
returns-then-most-here c =
    let parts = if_some _ _ _ c.in-Some.is c.split_first_chunk.ensures.cases in
    let front = block_front c.args.text.now _ c.loop-block.here _ parts.0 parts.2 in
    let told = c.is_block.ensures ∙ ap (all is_line_byte) front.0 in
    let counted = c.line_feeds_in-ends.ensures ∙ ap line_feeds front.0 in
    rw c.from-count.ensures (running_ends _ _ _ _ _ c.loop-block.invariant.1 front.1 _ c.requires.1 c.loop-block.invariant.0 _ told (search (rules, tests)) _ counted _ c.last_end-mark.ensures)
