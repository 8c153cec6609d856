-- `table_layout::part_base` meets its contract: the records of a part begin behind its count.
-- Assumes nothing.
use borrow.Author.Rules.{rules}
use Rattle.table_layout.proofs.StoreLaws.{base_is, base_fits}
use Rattle.table_layout.proofs.part_base.Goals as goal

pub overflow_add-result : goal.overflow_add-result
overflow_add-result c = search base_fits

pub returns : goal.returns
returns c = search (rules, base_is)
