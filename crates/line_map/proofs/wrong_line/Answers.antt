-- `line_map::wrong_line` meets its contract: its rest is wrong, and no rule after that is broken.
-- Assumes nothing.
use borrow.Author.Rules.{rules}
use Rattle.line_map.specs.PinMap.{wrong_map_line}
use Rattle.line_map.proofs.wrong_line.Goals as goal

pub returns : goal.returns
unfolding wrong_map_line
returns c = search rules
