-- `line_keyword::keyword_rule` meets its contract: the tests of the list in its order.
-- Assumes nothing.
use Rattle.base.proofs.BrokenLaws.{rule_list}
use Rattle.line_keyword.specs.Way.Rule.{keyword_rule}
use Rattle.line_keyword.proofs.keyword_rule.Goals as goal

pub returns-then-is_fork_open : goal.returns-then-is_fork_open
unfolding keyword_rule
returns-then-is_fork_open c = search rule_list depth 16 fits 8000

pub returns-then-is_misplaced : goal.returns-then-is_misplaced
unfolding keyword_rule
returns-then-is_misplaced c = search rule_list depth 16 fits 8000

pub returns-then-is_bad_argument : goal.returns-then-is_bad_argument
unfolding keyword_rule
returns-then-is_bad_argument c = search rule_list depth 16 fits 8000

pub returns-then-is_bad_integer : goal.returns-then-is_bad_integer
unfolding keyword_rule
returns-then-is_bad_integer c = search rule_list depth 16 fits 8000

pub returns-then-is_out_of_bounds : goal.returns-then-is_out_of_bounds
unfolding keyword_rule
returns-then-is_out_of_bounds c = search rule_list depth 16 fits 8000

pub returns-then-is_shape_broken : goal.returns-then-is_shape_broken
unfolding keyword_rule
returns-then-is_shape_broken c = search rule_list depth 16 fits 8000

pub returns-then-is_past_bound : goal.returns-then-is_past_bound
unfolding keyword_rule
returns-then-is_past_bound c = search rule_list depth 16 fits 8000

pub returns : goal.returns
unfolding keyword_rule
returns c = search rule_list depth 16 fits 8000
