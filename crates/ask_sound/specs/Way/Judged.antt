-- What a table that was found sound has, beside its view: all its records are sound, for a text of some length.
-- Assumes nothing.
use Rattle.std.specs.Prelude.{ℕ, ◌≡◌, true, List}
use Rattle.table_record.specs.Records.{records_of}
use Rattle.ask_sound.specs.Sound.{are_sound}

pub record SoundRecords (table : List ℕ) : Type 0 where
  pub bytes : ℕ
  pub sound : are_sound bytes (records_of table) ≡ true
