-- `line_map::pins_lack` meets its contract: whether a pin is there.
-- Assumes nothing.
use borrow.Author.Rules.{rules}
use Rattle.line_map.specs.PinMap.{pins_lack}
use Rattle.line_map.proofs.pins_lack.Goals as goal

pub returns : goal.returns
unfolding pins_lack
returns c = search rules
