use borrow.Author.Rules.{rules}
use Rattle.cross_rules.proofs.MarkedLaws.{marked_none}
use Rattle.cross_names.proofs.PinLaws.{pins_start, pins_end, pin_breaks, pins_on}
use Rattle.cross_names.proofs.maps.pin_finding.Goals as goal

pub loop-i-init : goal.loop-i-init
loop-i-init c = (search pins_start, search marked_none)

pub returns-then-is_repeated_marked : goal.returns-then-is_repeated_marked
returns-then-is_repeated_marked c = (search pin_breaks, c.is_repeated_marked.ensures.1.whole)

pub loop-i-preserved : goal.loop-i-preserved
loop-i-preserved c = (search pins_on, search rules)

pub returns : goal.returns
returns c = (search pins_end, c.loop-i.invariant.1.whole)
