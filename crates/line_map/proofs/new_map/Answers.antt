-- `line_map::new_map` meets its contract: the map in which nothing is given.
-- Assumes nothing.
use borrow.Author.Rules.{rules}
use Rattle.line_map.specs.PinMap.{new_map}
use Rattle.line_map.proofs.new_map.Goals as goal

pub returns : goal.returns
unfolding new_map
returns c = search rules
