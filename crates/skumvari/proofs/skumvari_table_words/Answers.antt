-- `skumvari::skumvari_table_words` meets its contract.
-- Assumes nothing.
use borrow.Author.Rules.{rules}
use Rattle.skumvari.specs.Room.{most_words}
use Rattle.skumvari.proofs.skumvari_table_words.Goals as goal

pub returns : goal.returns
unfolding most_words
returns c = search rules
