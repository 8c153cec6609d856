use Rattle.doc.proofs.FoundLaws.{search_starts, search_on, search_finds, search_ends, search_less, content_ordered, content_inside}
use Rattle.doc.proofs.next_line.Goals as goal

pub loop-here-init : goal.loop-here-init
loop-here-init c = search search_starts

pub slice_bounds-is_blank_line-count : goal.slice_bounds-is_blank_line-count
slice_bounds-is_blank_line-count c = search content_ordered

pub slice_bounds-is_blank_line-start : goal.slice_bounds-is_blank_line-start
slice_bounds-is_blank_line-start c = search content_ordered

pub slice_bounds-is_blank_line-end : goal.slice_bounds-is_blank_line-end
slice_bounds-is_blank_line-end c = search content_inside

pub slice_bounds-read_bracket-count : goal.slice_bounds-read_bracket-count
slice_bounds-read_bracket-count c = search content_ordered

pub slice_bounds-read_bracket-start : goal.slice_bounds-read_bracket-start
slice_bounds-read_bracket-start c = search content_ordered

pub slice_bounds-read_bracket-end : goal.slice_bounds-read_bracket-end
slice_bounds-read_bracket-end c = search content_inside

pub returns-then-not-is_blank_line : goal.returns-then-not-is_blank_line
returns-then-not-is_blank_line c = search search_finds

pub loop-here-smaller : goal.loop-here-smaller
loop-here-smaller c = search search_less

pub loop-here-preserved : goal.loop-here-preserved
loop-here-preserved c = search search_on

pub returns : goal.returns
returns c = search search_ends
