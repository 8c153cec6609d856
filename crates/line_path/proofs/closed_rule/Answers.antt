-- `line_path::closed_rule` meets its contract: each `return` by the tests that led there.
-- Assumes nothing.
use Rattle.line_path.proofs.RuleLaws.{closed_other, closed_late, closed_right, closed_wrong}
use Rattle.line_path.proofs.closed_rule.Goals as goal

pub returns-then-l-ne-SIDE : goal.returns-then-l-ne-SIDE
returns-then-l-ne-SIDE c = search closed_other

pub returns-then-not-p : goal.returns-then-not-p
returns-then-not-p c = search closed_late

pub returns-then-l : goal.returns-then-l
returns-then-l c = search closed_right

pub returns : goal.returns
returns c = search closed_wrong
