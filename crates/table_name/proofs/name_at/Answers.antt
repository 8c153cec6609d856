-- `table_name::name_at` meets its contract: nothing behind the text, what is left of it, or the whole.
-- Assumes nothing.
use borrow.Author.Rules.{rules}
use Rattle.table_name.proofs.SearchLaws.{name_none, name_cut, name_whole}
use Rattle.table_name.proofs.name_at.Goals as goal

pub returns-then-text-from : goal.returns-then-text-from
returns-then-text-from c = search (name_none, rules)

pub returns-then-text-from-2 : goal.returns-then-text-from-2
returns-then-text-from-2 c = search (name_cut, rules)

pub returns : goal.returns
returns c = name_whole _ _ _
