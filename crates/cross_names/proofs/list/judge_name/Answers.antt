-- `cross_names::list::judge_name` meets its contract.
-- Assumes nothing.
use Rattle.cross_names.proofs.NamedLaws.{name_none, name_twice, name_first}
use Rattle.cross_names.proofs.list.judge_name.Goals as goal

pub returns-then-counts-index : goal.returns-then-counts-index
returns-then-counts-index c = search name_none

pub returns-then-listed-slot : goal.returns-then-listed-slot
returns-then-listed-slot c = search name_twice

pub returns : goal.returns
returns c = search name_first
