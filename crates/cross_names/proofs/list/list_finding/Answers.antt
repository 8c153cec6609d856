use Rattle.cross_names.proofs.ListLaws.{list_starts, list_ends, list_stops, found, list_less, line_ready, slot_in, list_breaks, list_on}
use Rattle.cross_names.proofs.list.list_finding.Goals as goal

pub loop-view-init : goal.loop-view-init
loop-view-init c = search list_starts

pub next_line-line-requires : goal.next_line-line-requires
next_line-line-requires c = (c.loop-view.invariant.within, c.loop-view.invariant.counted)

pub returns-then-not-line : goal.returns-then-not-line
returns-then-not-line c = list_ends _ _ _ c.loop-view.invariant _ c.next_line-line.ensures c.if-not-line.true

pub returns-then-opens_model : goal.returns-then-opens_model
returns-then-opens_model c = list_stops _ _ _ c.loop-view.invariant _ c.next_line-line.ensures c.if-not-line.false _ c.requires.0 _ c.requires.1 _ c.opens_model.ensures c.if-opens_model.true

pub judge_line-judged-requires : goal.judge_line-judged-requires
judge_line-judged-requires c = line_ready _ _ _ c.loop-view.invariant _ c.next_line-line.ensures c.if-not-line.false _ c.requires.0 _ c.requires.1

pub returns-then-judged-ne0 : goal.returns-then-judged-ne0
returns-then-judged-ne0 c = list_breaks _ _ _ c.loop-view.invariant _ c.next_line-line.ensures c.if-not-line.false _ c.requires.0 _ c.requires.1 _ c.judge_line-judged.ensures c.if-judged-ne0.true

pub bounds-listed-slot : goal.bounds-listed-slot
bounds-listed-slot c = search slot_in

pub past-cursor-requires : goal.past-cursor-requires
past-cursor-requires c = search found

pub loop-view-smaller : goal.loop-view-smaller
loop-view-smaller c = search list_less

pub loop-view-preserved : goal.loop-view-preserved
loop-view-preserved c = search list_on
