-- `line_path::open_rule` meets its contract: the rule_list are tested in the order of the definition.
-- Assumes nothing.
use Rattle.base.proofs.BrokenLaws.{rule_list}
use Rattle.line_path.specs.Way.Rule.{open_rule}
use Rattle.line_path.proofs.RuleLaws.{side_free, step_over, step_free}
use Rattle.line_path.proofs.open_rule.Goals as goal

pub returns-then-is_bad_fork : goal.returns-then-is_bad_fork
unfolding open_rule
returns-then-is_bad_fork c = search rule_list depth 12

pub returns-then-not-l : goal.returns-then-not-l
unfolding open_rule
returns-then-not-l c = search rule_list depth 12

pub returns-then-is_out_of_order : goal.returns-then-is_out_of_order
unfolding open_rule
returns-then-is_out_of_order c = search rule_list depth 12

pub returns-then-not-l-2 : goal.returns-then-not-l-2
unfolding open_rule
returns-then-not-l-2 c = search rule_list depth 12

pub returns-then-not-l-3 : goal.returns-then-not-l-3
unfolding open_rule
returns-then-not-l-3 c = search rule_list depth 12

pub returns-then-not-is_step : goal.returns-then-not-is_step
unfolding open_rule
returns-then-not-is_step c = search (rule_list, side_free) depth 12

pub returns-then-steps-ge-STEPS : goal.returns-then-steps-ge-STEPS
unfolding open_rule
returns-then-steps-ge-STEPS c = search (rule_list, step_over) depth 12

pub returns : goal.returns
unfolding open_rule
returns c = search (rule_list, step_free) depth 12
