-- `cross_names::list::judge_line` meets its contract.
-- Assumes nothing.
use Rattle.base.proofs.IfLaws.{chain}
use Rattle.cross_names.specs.Way.Judged.{line_judged}
use Rattle.cross_names.proofs.list.judge_line.Goals as goal

pub returns-then-not-is_list_line : goal.returns-then-not-is_list_line
unfolding line_judged
returns-then-not-is_list_line c = search chain

pub returns : goal.returns
unfolding line_judged
returns c = search chain
