-- `line_map::order_line` meets its contract: each `return` by how many words there are and what the second one names.
-- Assumes nothing.
use Rattle.lex_line.proofs.WordLaws.{second_ordered, second_within}
use Rattle.line_map.proofs.LineLaws.{order_other, order_none, order_some}
use Rattle.line_map.proofs.order_line.Goals as goal

pub returns-then-few-ne2 : goal.returns-then-few-ne2
returns-then-few-ne2 c = search order_other

pub marked-requires : goal.marked-requires
marked-requires c = search (second_ordered, second_within)

pub returns-then-order-eq0 : goal.returns-then-order-eq0
returns-then-order-eq0 c = search order_none

pub returns : goal.returns
returns c = search order_some
