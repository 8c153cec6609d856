-- `ask_entry::entry_in` meets its contract: the values of the matrix lie inside the table and rise.
-- Assumes nothing.
use borrow.Author.Rules.{rules}
use Rattle.ask_entry.proofs.ReadyLaws.{entry_none, first_fits, from_fits, entry_found}
use Rattle.ask_entry.proofs.ReadyLaws.{search_room, search_rises}
use Rattle.ask_entry.proofs.entry_in.Goals as goal

pub returns-then-index-eq0 : goal.returns-then-index-eq0
returns-then-index-eq0 c = search entry_none

pub overflow_mul-from : goal.overflow_mul-from
overflow_mul-from c = search first_fits

pub overflow_add-from : goal.overflow_add-from
overflow_add-from c = search from_fits

pub word_at-requires : goal.word_at-requires
word_at-requires c = search (rules, search_room, search_rises)

pub returns : goal.returns
returns c = search entry_found
