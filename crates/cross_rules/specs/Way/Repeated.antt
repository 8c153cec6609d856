-- "19 TWICE: second of one name": a record of a table has the name of an earlier record. Records of `width` words begin at
-- word `base`.
-- Assumes nothing.
use Rattle.std.specs.Prelude.{ℕ, ◌+◌, ◌*◌, ◌<◌, ◌≡◌, Bool, List, length, get_or}
use Rattle.base.specs.Runs.{same}
use Rattle.table_record.specs.Way.Standing.{places, name_record_at}
use Rattle.table_name.specs.Name.{name_at}
use Rattle.table_name.specs.Way.Hash.{marks_many, hash_of}
use Rattle.cross_rules.specs.Rules.{any}

-- the name of the record that begins at word `at` of the table, and its mark
unfoldable pub own_name : List ℕ → List ℕ → ℕ → List ℕ
own_name t table at = name_at t (name_record_at table at).start (name_record_at table at).size

unfoldable pub own_mark : List ℕ → List ℕ → ℕ → ℕ
own_mark t table at = hash_of 0 (own_name t table at)

-- a record before record `index` has its name
unfoldable pub is_repeated : List ℕ → List ℕ → ℕ → ℕ → ℕ → Bool
is_repeated t table base width index =
    any (λ (at : ℕ). same (own_name t table (base + width * index)) (own_name t table at)) (places width base index)

-- the marks of the first `many` names hold `stamp`
pub record MarkedNames (t table marks : List ℕ) (stamp base width many : ℕ) : Type 0 where
  pub whole : length marks ≡ marks_many
  pub each : (j : ℕ) → j < many → get_or marks (own_mark t table (base + width * j)) 0 ≡ stamp
