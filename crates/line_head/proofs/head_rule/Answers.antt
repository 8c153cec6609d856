-- `line_head::head_rule` meets its contract: the rule_list are tested in the order of the definition.
-- Assumes nothing.
use Rattle.base.proofs.BrokenLaws.{rule_list}
use Rattle.line_head.specs.Way.Rule.{head_rule}
use Rattle.line_head.proofs.head_rule.Goals as goal

pub returns-then-not-l : goal.returns-then-not-l
unfolding head_rule
returns-then-not-l c = search rule_list depth 12

pub returns-then-is_out_of_order : goal.returns-then-is_out_of_order
unfolding head_rule
returns-then-is_out_of_order c = search rule_list depth 12

pub returns-then-not-l-2 : goal.returns-then-not-l-2
unfolding head_rule
returns-then-not-l-2 c = search rule_list depth 12

pub returns-then-not-l-3 : goal.returns-then-not-l-3
unfolding head_rule
returns-then-not-l-3 c = search rule_list depth 12

pub returns : goal.returns
unfolding head_rule
returns c = search rule_list depth 12
