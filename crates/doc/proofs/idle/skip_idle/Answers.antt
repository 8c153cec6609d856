use Rattle.read_line.proofs.WalkLaws.{content_start, content_within}
use Rattle.read_line.proofs.CrossLaws.{crossed_less}
use Rattle.doc.proofs.IdleLaws.{idle_starts, idle_on}
use borrow.Author.Rules.{rules}
use Rattle.doc.proofs.idle.skip_idle.Goals as goal

pub loop-here-init : goal.loop-here-init
loop-here-init c = (search rules, search idle_starts)

pub slice_bounds-is_idle-count : goal.slice_bounds-is_idle-count
slice_bounds-is_idle-count c = search content_start

pub slice_bounds-is_idle-start : goal.slice_bounds-is_idle-start
slice_bounds-is_idle-start c = search content_start

pub slice_bounds-is_idle-end : goal.slice_bounds-is_idle-end
slice_bounds-is_idle-end c = search content_within

pub loop-here-smaller : goal.loop-here-smaller
loop-here-smaller c = search crossed_less

pub loop-here-preserved : goal.loop-here-preserved
loop-here-preserved c = (search rules, search idle_on)
