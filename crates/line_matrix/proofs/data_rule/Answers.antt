-- `line_matrix::data_rule` meets its contract: the tests of the list in its order.
-- Assumes nothing.
use Rattle.base.proofs.BrokenLaws.{rule_list}
use Rattle.line_matrix.specs.Way.Rule.{data_rule}
use Rattle.line_matrix.proofs.data_rule.Goals as goal

pub returns-then-is_out_of_order : goal.returns-then-is_out_of_order
unfolding data_rule
returns-then-is_out_of_order c = search rule_list depth 12

pub returns-then-not-l : goal.returns-then-not-l
unfolding data_rule
returns-then-not-l c = search rule_list depth 12

pub returns-then-not-l-2 : goal.returns-then-not-l-2
unfolding data_rule
returns-then-not-l-2 c = search rule_list depth 12

pub returns-then-are_too_many : goal.returns-then-are_too_many
unfolding data_rule
returns-then-are_too_many c = search rule_list depth 12

pub returns : goal.returns
unfolding data_rule
returns c = search rule_list depth 12
