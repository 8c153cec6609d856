-- `line_map::list_line` meets its contract: each `return` by how many words there are.
-- Assumes nothing.
use Rattle.line_map.proofs.LineLaws.{list_other, list_alone}
use Rattle.line_map.proofs.list_line.Goals as goal

pub returns-then-few-ne1 : goal.returns-then-few-ne1
returns-then-few-ne1 c = search (list_other, list_alone)

pub returns : goal.returns
returns c = search (list_other, list_alone)
