-- `read_line::read_single` meets its contract: the line is taken, or breaks a rule.
-- Assumes nothing.
use Rattle.read_line.proofs.WalkLaws.{line_read, content_start, content_within}
use Rattle.read_line.proofs.CrossLaws.{elsewhere_here}
use borrow.Author.Rules.{rules}
use Rattle.read_line.proofs.read_single.Goals as goal

pub slice_bounds-read_bracket-count : goal.slice_bounds-read_bracket-count
slice_bounds-read_bracket-count c = search content_start

pub slice_bounds-read_bracket-start : goal.slice_bounds-read_bracket-start
slice_bounds-read_bracket-start c = search content_start

pub slice_bounds-read_bracket-end : goal.slice_bounds-read_bracket-end
slice_bounds-read_bracket-end c = search content_within

pub slice_bounds-take_line-count : goal.slice_bounds-take_line-count
slice_bounds-take_line-count c = search content_start

pub slice_bounds-take_line-start : goal.slice_bounds-take_line-start
slice_bounds-take_line-start c = search content_start

pub slice_bounds-take_line-end : goal.slice_bounds-take_line-end
slice_bounds-take_line-end c = search content_within

pub take_line-taken-requires : goal.take_line-taken-requires
take_line-taken-requires c = (search rules, search rules, search elsewhere_here)

pub returns : goal.returns
returns c = search line_read
