-- `read_matrix::matrix_keyword_line` meets its contract: the rule, then the state and the staging after it.
-- Assumes nothing.
use Rattle.read_matrix.proofs.LineLaws.{keeps_stop, keeps_go}
use Rattle.read_matrix.proofs.matrix_keyword_line.Goals as goal

pub returns-then-rule-ne0 : goal.returns-then-rule-ne0
returns-then-rule-ne0 c = search keeps_stop

pub returns : goal.returns
returns c = search keeps_go
