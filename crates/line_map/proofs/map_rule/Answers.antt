-- `line_map::map_rule` meets its contract: each `return` by the rules that are kept before it.
-- Assumes nothing.
use mathlib.Core.Path.{sym}
use Rattle.base.proofs.BrokenLaws.{firsts}
use Rattle.line_map.specs.Way.Rule.{map_rule}
use Rattle.line_map.proofs.MapLaws.{out_of_order, in_order}
use Rattle.line_map.proofs.map_rule.Goals as goal

pub returns-then-not-l : goal.returns-then-not-l
unfolding map_rule
returns-then-not-l c = sym (search (firsts, out_of_order, in_order))

pub returns-then-is_out_of_order : goal.returns-then-is_out_of_order
unfolding map_rule
returns-then-is_out_of_order c = sym (search (firsts, out_of_order, in_order))

pub returns-then-not-l-2 : goal.returns-then-not-l-2
unfolding map_rule
returns-then-not-l-2 c = sym (search (firsts, out_of_order, in_order))

pub returns-then-not-l-3 : goal.returns-then-not-l-3
unfolding map_rule
returns-then-not-l-3 c = sym (search (firsts, out_of_order, in_order))

pub returns : goal.returns
unfolding map_rule
returns c = sym (search (firsts, out_of_order, in_order))
