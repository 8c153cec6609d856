-- `read_sections::read_alone` meets its contract. A line that breaks a rule, or one that may open and close.
-- Assumes nothing.
use mathlib.Core.Path.{refl}
use Rattle.read_sections.proofs.WalkLaws.{alone_asked, alone_stops, alone_start, alone_within, alone_few, alone_bracket, alone_taken}
use borrow.Author.Rules.{rules}
use Rattle.read_sections.proofs.read_alone.Goals as goal

pub read_single-read-requires : goal.read_single-read-requires
read_single-read-requires c = (search rules, search rules, search alone_asked)

pub returns-then-read-ne0 : goal.returns-then-read-ne0
returns-then-read-ne0 c = let pre = c.requires in
    alone_stops _ _ _ _ pre.0 pre.2 pre.3 _ c.read_single-read.ensures c.if-read-ne0.true _ _

pub slice_bounds-open_after-count : goal.slice_bounds-open_after-count
slice_bounds-open_after-count c = search alone_start

pub slice_bounds-open_after-start : goal.slice_bounds-open_after-start
slice_bounds-open_after-start c = search alone_start

pub slice_bounds-open_after-end : goal.slice_bounds-open_after-end
slice_bounds-open_after-end c = search alone_within

pub open_after-next-requires : goal.open_after-next-requires
open_after-next-requires c = (search alone_few, search alone_bracket)

pub returns : goal.returns
returns c = let pre = c.requires in
    alone_taken _ _ _ _ pre.0 pre.2 pre.3 _ c.read_single-read.ensures
    c.if-read-ne0.false _ pre.4 _ _ c.close_section.ensures _ refl _ c.open_after-next.ensures
