-- `read_path::take_step` meets its contract: each arm by the front of the line.
-- Assumes nothing.
use Rattle.read_path.proofs.LineLaws.{take_blank, take_opens, take_worded}
use Rattle.read_path.proofs.StepLaws.{line_ordered, line_within}
use borrow.Author.Rules.{rules}
use Rattle.read_path.proofs.take_step.Goals as goal

pub slice_bounds-front_of-count : goal.slice_bounds-front_of-count
slice_bounds-front_of-count c = search line_ordered

pub slice_bounds-front_of-start : goal.slice_bounds-front_of-start
slice_bounds-front_of-start c = search (rules, line_ordered)

pub slice_bounds-front_of-end : goal.slice_bounds-front_of-end
slice_bounds-front_of-end c = search (rules, line_within)

pub path_line-requires : goal.path_line-requires
path_line-requires c = (search take_worded, search rules)

pub returns-in-Blanks : goal.returns-in-Blanks
returns-in-Blanks c = search take_blank

pub returns-in-Opening : goal.returns-in-Opening
returns-in-Opening c = search take_opens
