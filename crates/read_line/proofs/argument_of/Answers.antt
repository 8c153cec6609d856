-- `read_line::argument_of` meets its contract: from its start to the end of the last word.
-- Assumes nothing.
use Rattle.read_line.proofs.StepLaws.{argument_within, argument_none, argument_there}
use Rattle.read_line.proofs.argument_of.Goals as goal

pub returns-then-end-start : goal.returns-then-end-start
returns-then-end-start c = search argument_none

pub slice_bounds-result-end-2 : goal.slice_bounds-result-end-2
slice_bounds-result-end-2 c = search argument_within

pub returns : goal.returns
returns c = search argument_there
