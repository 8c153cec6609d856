-- The search for a name among the records of a part.
-- Assumes nothing.
use Rattle.std.specs.Prelude.{ℕ, ◌-◌, ◌≤◌, Bool, List, length, take, drop, leb}
use Rattle.base.specs.If.{both}
use Rattle.base.specs.Runs.{same}
use Rattle.base.specs.Way.Joined.{Joins}
use Rattle.table_layout.specs.Layout.{chopped}
use Rattle.table_record.specs.Way.Standing.{name_record_at}
use Rattle.table_record.specs.declared.NameRecord.{NameRecord}
use Rattle.doc.specs.Records.{index_of}
use Rattle.table_name.specs.Name.{name_at}

-- the record has this name, and has it at offset `after` or later
unfoldable pub has_name : List ℕ → List ℕ → ℕ → NameRecord → Bool
has_name t name after r = both (leb after r.start) (same name (name_at t r.start r.size))

-- the same of a record that is given by its words
abbrev pub is_named : List ℕ → List ℕ → ℕ → List ℕ → Bool
is_named t name after words = has_name t name after (name_record_at words 0)

-- the index of the first such of `count` records, the first of which is at `base`; `count` if there is none
unfoldable pub find_in : List ℕ → List ℕ → ℕ → ℕ → ℕ → List ℕ → ℕ → ℕ
find_in t table base width count name after = index_of (is_named t name after) (chopped width count (drop base table))

-- the last four bytes of a name as one number, if it has that many
pub record Tails (name : List ℕ) (tail : ℕ) : Type 0 where
  pub four : 4 ≤ length name → Joins (take 4 (drop (length name - 4) name)) tail
