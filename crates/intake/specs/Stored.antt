-- Document 01, "18 ROOM: table shorter than the words needed (line 0)": the result of rules 5 to 17 and 18 for a text
-- that breaks none of rules 1 to 4. What the table then holds is defined elsewhere (Verdict.antt).
-- Assumes nothing.
use Rattle.std.specs.Prelude.{ℕ, List, [], ◌∷◌, length, ltb, eqb}
use Rattle.base.specs.If.{provided◌then◌else◌}
use Rattle.base.specs.Broken.{Rule, ◌when◌, first_broken}
use Rattle.base.specs.Refusal as refusal
use Rattle.read_line.specs.Reading.{reading_of}
use Rattle.read_line.specs.declared.Reading.{Reading}
use Rattle.read_line.specs.declared.Reading.TheVariants as reading
use Rattle.doc.specs.Records.{table_of}
use Rattle.intake.specs.declared.store.StoreAnswer.{StoreAnswer}
use Rattle.intake.specs.declared.store.StoreAnswer.TheVariants.{Stored, Refused}

-- the words needed are the length of the layout
abbrev pub room_rules : List ℕ → ℕ → List Rule
room_rules t size = refusal.room when ltb size (length (table_of t)) ∷ []

abbrev pub after_reading : List ℕ → ℕ → Reading → StoreAnswer
after_reading t size (reading.Read c) =
    provided eqb (first_broken (room_rules t size)) 0 then Stored (length (table_of t)) else Refused (first_broken (room_rules t size)) 0
after_reading t size (reading.Refused rule line) = Refused rule line

-- for a table of `size` words
unfoldable pub store_answer : List ℕ → ℕ → StoreAnswer
store_answer t size = after_reading t size (reading_of t)
