-- `intake::store::store_text` meets its contract: a text that is refused leaves zeros, one that is read to its end is stored.
-- Assumes nothing.
use Rattle.intake.proofs.ReadyLaws.{not_read, store_ready}
use borrow.Author.Rules.{rules}
use Rattle.intake.proofs.store.store_text.Goals as goal

pub store-requires : goal.store-requires
store-requires c = store_ready _ _ c.requires.0 c.requires.1 c.requires.2 _ (search rules)

pub returns-in-Refused : goal.returns-in-Refused
returns-in-Refused c = (search not_read, search rules)
