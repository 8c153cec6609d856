use borrow.Author.Rules.{rules}
use Rattle.table_name.proofs.SearchLaws.{search_starts, search_ends, name_inside, search_finds, search_on}
use Rattle.table_name.proofs.find_name.Goals as goal

pub loop-i-init : goal.loop-i-init
loop-i-init c = (search_starts _ _ _ _ _ _ _, c.tail_of-tail.ensures)

pub name_at-own-requires : goal.name_at-own-requires
name_at-own-requires c = search name_inside

pub returns-then-has_name : goal.returns-then-has_name
returns-then-has_name c = search search_finds

pub loop-i-preserved : goal.loop-i-preserved
loop-i-preserved c = (search search_on, search rules)

pub returns : goal.returns
returns c = search search_ends
