-- `line_path::unit_line` meets its contract: each `return` by the words compared so far.
-- Assumes nothing.
use Rattle.base.proofs.IfLaws.{chain}
use Rattle.line_path.specs.Way.Section.{unit_line}
use Rattle.line_path.proofs.unit_line.Goals as goal

pub returns-then-same_bytes : goal.returns-then-same_bytes
unfolding unit_line
returns-then-same_bytes c = search chain depth 12

pub returns-then-same_bytes-2 : goal.returns-then-same_bytes-2
unfolding unit_line
returns-then-same_bytes-2 c = search chain depth 12

pub returns : goal.returns
unfolding unit_line
returns c = search chain depth 12
