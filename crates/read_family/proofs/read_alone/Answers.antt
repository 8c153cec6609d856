-- `read_family::read_alone` meets its contract: a line that breaks a rule, or one that may close and open blocks.
-- Assumes nothing.
use Rattle.read_family.proofs.LineLaws.{alone_start, alone_within, alone_few, alone_bracket, alone_stops, alone_goes}
use Rattle.read_family.proofs.read_alone.Goals as goal

pub returns-then-read-ne0 : goal.returns-then-read-ne0
returns-then-read-ne0 c = λ steps pins. search alone_stops

pub slice_bounds-open_after-count : goal.slice_bounds-open_after-count
slice_bounds-open_after-count c = search alone_start

pub slice_bounds-open_after-start : goal.slice_bounds-open_after-start
slice_bounds-open_after-start c = search alone_start

pub slice_bounds-open_after-end : goal.slice_bounds-open_after-end
slice_bounds-open_after-end c = search alone_within

pub open_after-next-requires : goal.open_after-next-requires
open_after-next-requires c = (search alone_few, search alone_bracket)

pub returns : goal.returns
returns c = λ steps pins. search alone_goes
