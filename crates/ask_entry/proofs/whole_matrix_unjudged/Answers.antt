-- `ask_entry::whole_matrix_unjudged` meets its contract.
-- Assumes nothing.
use borrow.Author.Rules.{rules}
use Rattle.ask_entry.proofs.WholeLaws.{whole_known}
use Rattle.ask_sound.proofs.SoundLaws.{told_rooms, told_records}
use Rattle.ask_entry.proofs.whole_matrix_unjudged.Goals as goal

pub matrix_from-requires : goal.matrix_from-requires
matrix_from-requires c = (search told_rooms, search told_records)

pub returns : goal.returns
returns c = (search whole_known, search rules)
