use borrow.Author.Tests.{not-false}
use Rattle.read_line.proofs.WalkLaws.{content_start, content_within}
use Rattle.read_line.proofs.CrossLaws.{crossed_less}
use Rattle.read_family.proofs.PinLaws.{content_few, gone_start, gone_ends, gone_leaves, gone_stops, gone_on}
use borrow.Author.Rules.{rules}
use Rattle.read_family.proofs.pins.pass_pins.Goals as goal

pub loop-here-init : goal.loop-here-init
loop-here-init c = (search rules, search gone_start)

pub slice_bounds-take_pin-count : goal.slice_bounds-take_pin-count
slice_bounds-take_pin-count c = search content_start

pub slice_bounds-take_pin-start : goal.slice_bounds-take_pin-start
slice_bounds-take_pin-start c = search content_start

pub slice_bounds-take_pin-end : goal.slice_bounds-take_pin-end
slice_bounds-take_pin-end c = search content_within

pub take_pin-next-requires : goal.take_pin-next-requires
take_pin-next-requires c = search content_few

pub returns-then-not-next : goal.returns-then-not-next
returns-then-not-next c = search gone_leaves

pub returns-then-part-ne0 : goal.returns-then-part-ne0
returns-then-part-ne0 c = search (gone_stops, not-false)

pub loop-here-smaller : goal.loop-here-smaller
loop-here-smaller c = search crossed_less

pub loop-here-preserved : goal.loop-here-preserved
loop-here-preserved c = (search rules, search (gone_on, not-false))

pub returns : goal.returns
returns c = search gone_ends
