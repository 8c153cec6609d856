-- `intake::store::store` meets its contract: no room, or the table of the text.
-- Assumes nothing.
use Rattle.intake.proofs.ReadyLaws.{many_few, store_refused, store_stored, store_room}
use borrow.Author.Rules.{rules}
use Rattle.intake.proofs.store.store.Goals as goal

pub words_needed-words-requires : goal.words_needed-words-requires
words_needed-words-requires c = search many_few

pub returns-then-table-words : goal.returns-then-table-words
returns-then-table-words c = (search store_refused, search rules)

pub store_staged-requires : goal.store_staged-requires
store_staged-requires c = (search rules, search store_room, search rules, search rules)

pub returns : goal.returns
returns c = (search store_stored, search rules)
