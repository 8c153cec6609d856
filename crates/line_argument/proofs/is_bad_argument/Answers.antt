-- `line_argument::is_bad_argument` meets its contract: each `return` by the keywords it was compared with.
-- Assumes nothing.
use Rattle.base.proofs.IfLaws.{chain}
use Rattle.line_argument.specs.Argument.{is_bad_argument}
use Rattle.line_argument.proofs.is_bad_argument.Goals as goal

pub returns-then-is_row_or_bandwidth : goal.returns-then-is_row_or_bandwidth
unfolding is_bad_argument
returns-then-is_row_or_bandwidth c = search chain depth 12 fits 4000

pub returns-then-opens_matrix : goal.returns-then-opens_matrix
unfolding is_bad_argument
returns-then-opens_matrix c = search chain depth 12 fits 4000

pub returns-then-takes_nothing : goal.returns-then-takes_nothing
unfolding is_bad_argument
returns-then-takes_nothing c = search chain depth 12 fits 4000

pub returns-then-takes_name : goal.returns-then-takes_name
unfolding is_bad_argument
returns-then-takes_name c = search chain depth 12 fits 4000

pub returns-then-takes_text : goal.returns-then-takes_text
unfolding is_bad_argument
returns-then-takes_text c = search chain depth 12 fits 4000

pub returns : goal.returns
unfolding is_bad_argument
returns c = search chain depth 12 fits 4000
