use Rattle.read_line.proofs.WalkLaws.{content_start, content_within}
use Rattle.read_matrix.proofs.RunLaws.{passed_start, passed_counted, passed_ends, run_fits, run_bounded, run_broken, run_ends, run_less, run_leaves, run_stops, run_on}
use borrow.Author.Rules.{rules}
use Rattle.read_matrix.proofs.pass_data.Goals as goal

pub loop-here-init : goal.loop-here-init
loop-here-init c = search passed_start

pub pass_run-run-requires : goal.pass_run-run-requires
pass_run-run-requires c = let gone = c.loop-here.invariant.gone in
    record { fact_1 = gone.crossed.within; fact_2 = search passed_counted; fact_3 = gone.bounded; fact_4 = gone.few }

pub returns-then-text-here : goal.returns-then-text-here
returns-then-text-here c = search run_ends

pub slice_bounds-take_data-count : goal.slice_bounds-take_data-count
slice_bounds-take_data-count c = search content_start

pub slice_bounds-take_data-start : goal.slice_bounds-take_data-start
slice_bounds-take_data-start c = search content_start

pub slice_bounds-take_data-end : goal.slice_bounds-take_data-end
slice_bounds-take_data-end c = search content_within

pub take_data-next-requires : goal.take_data-next-requires
take_data-next-requires c = (
  run_bounded _ _ _ _ _ _ _ _ _ _ c.loop-here.invariant _ _ c.pass_run-run.ensures,
  run_broken _ _ _ _ _ _ _ _ _ _ c.loop-here.invariant _ _ c.pass_run-run.ensures
      c.if-text-here.false _ c.line_at-found.ensures,
)

pub returns-then-not-next : goal.returns-then-not-next
returns-then-not-next c = search run_leaves

pub returns-then-part-ne0 : goal.returns-then-part-ne0
returns-then-part-ne0 c = run_stops _ _ _ _ _ _ _ _ _ _ c.loop-here.invariant _ _ c.pass_run-run.ensures
    c.if-text-here.false _ c.line_at-found.ensures _ c.take_data-next.ensures
    c.if-not-next.false c.if-part-ne0.true

pub overflow_add-line_here : goal.overflow_add-line_here
overflow_add-line_here c = run_fits _ _ _ _ _ _ _ _ _ _ c.loop-here.invariant _ _ c.pass_run-run.ensures
    c.if-text-here.false (search rules)

pub loop-here-smaller : goal.loop-here-smaller
loop-here-smaller c = run_less _ _ _ _ _ _ _ _ _ _ c.loop-here.invariant _ _ c.pass_run-run.ensures
    c.if-text-here.false _ c.line_at-found.ensures

pub loop-here-preserved : goal.loop-here-preserved
loop-here-preserved c = run_on _ _ _ _ _ _ _ _ _ _ c.loop-here.invariant _ _ c.pass_run-run.ensures
    c.if-text-here.false _ c.line_at-found.ensures _ c.take_data-next.ensures
    c.if-not-next.false c.if-part-ne0.false

pub returns : goal.returns
returns c = search passed_ends
