-- What the lent table holds after the records are stored or the text is refused.
-- Assumes nothing.
use Rattle.std.specs.Prelude.{ℕ, ◌-◌, List, ◌++◌, length, replicate}
use Rattle.doc.specs.Records.{table_of}
use Rattle.intake.specs.declared.store.StoreAnswer.{StoreAnswer}
use Rattle.intake.specs.declared.store.StoreAnswer.TheVariants.{Stored, Refused}

-- "A refused intake zeroes the table, an accepted one the words past those used"
abbrev pub table_after_storing : List ℕ → ℕ → StoreAnswer → List ℕ
table_after_storing t size (Stored words) = table_of t ++ replicate (size - length (table_of t)) 0
table_after_storing t size (Refused rule line) = replicate size 0
