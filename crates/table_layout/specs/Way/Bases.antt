-- Where the records of each part begin, given how many records each part has.
-- Assumes nothing.
use Rattle.std.specs.Prelude.{ℕ, ◌+◌, ◌*◌, ◌≤◌, List, [], ◌∷◌, get_or}
use Rattle.table_layout.specs.Layout.{widths}
use Rattle.table_layout.specs.Bounds.{most_values}

-- where the records of each part begin, if the count of the first part is at `at`
unfoldable pub bases_from : ℕ → List ℕ → List ℕ → List ℕ
bases_from at [] counts = []
bases_from at (w ∷ ws) [] = []
bases_from at (w ∷ ws) (c ∷ cs) = (at + 1) ∷ bases_from (at + 1 + w * c) ws cs

-- where the records of a part begin, for these counts of records
abbrev pub part_base : List ℕ → ℕ → ℕ
part_base counts p = get_or (bases_from 0 widths counts) p 0

-- "65,536 values" is the greatest of the bounds: no count is above it, so no sum of counts wraps
pub record BoundedCounts (counts : List ℕ) : Type 0 where
  pub few : (p : ℕ) → get_or counts p 0 ≤ most_values
