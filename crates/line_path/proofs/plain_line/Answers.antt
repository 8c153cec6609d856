-- `line_path::plain_line` meets its contract.
-- Assumes nothing.
use borrow.Author.Rules.{rules}
use Rattle.line_path.specs.Path.{plain_line}
use Rattle.line_path.specs.Way.Section.{plain_parts}
use Rattle.line_path.proofs.plain_line.Goals as goal

pub returns : goal.returns
unfolding plain_parts plain_line
returns c = search rules
