-- `ask_entry::entry_unjudged` meets its contract.
-- Assumes nothing.
use Rattle.ask_entry.proofs.EntryLaws.{answer_known}
use Rattle.ask_sound.proofs.SoundLaws.{told_rooms, told_records}
use Rattle.ask_entry.proofs.entry_unjudged.Goals as goal

pub entry_from-requires : goal.entry_from-requires
entry_from-requires c = (search told_rooms, search told_records)

pub returns : goal.returns
returns c = search answer_known
