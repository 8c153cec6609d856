-- `line_keyword::matrix_keyword_rule` meets its contract: the tests of the list in its order.
-- Assumes nothing.
use Rattle.base.proofs.BrokenLaws.{rule_list}
use Rattle.line_keyword.specs.Way.Row.{matrix_keyword_rule}
use Rattle.line_keyword.proofs.matrix_keyword_rule.Goals as goal

pub returns-then-is_bad_argument : goal.returns-then-is_bad_argument
unfolding matrix_keyword_rule
returns-then-is_bad_argument c = search rule_list depth 16 fits 8000

pub returns-then-is_bad_integer : goal.returns-then-is_bad_integer
unfolding matrix_keyword_rule
returns-then-is_bad_integer c = search rule_list depth 16 fits 8000

pub returns-then-is_out_of_bounds : goal.returns-then-is_out_of_bounds
unfolding matrix_keyword_rule
returns-then-is_out_of_bounds c = search rule_list depth 16 fits 8000

pub returns-then-is_wrong_by : goal.returns-then-is_wrong_by
unfolding matrix_keyword_rule
returns-then-is_wrong_by c = search rule_list depth 16 fits 8000

pub returns : goal.returns
unfolding matrix_keyword_rule
returns c = search rule_list depth 16 fits 8000
