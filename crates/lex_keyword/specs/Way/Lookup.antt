-- How a name is looked up: one table with all names as they are compared, where each name starts in it, and the first
-- name of each length. So a name is compared only with the names of its own length, at most four of the forty.
-- Assumes nothing.
use Rattle.std.specs.Prelude.{ℕ, zero, suc, Bool, true, false, List, [], ◌∷◌, ◌++◌, map, length, take, drop, ltb, eqb}
use Rattle.base.specs.If.{provided◌then◌else◌, both}
use Rattle.lex_keyword.specs.Names.{folded, names}

-- names as they are compared, one after another
unfoldable pub joined_names : List (List ℕ) → List ℕ
joined_names [] = []
joined_names (n ∷ ns) = map folded n ++ joined_names ns

unfoldable pub letters : List ℕ
letters = joined_names names

-- where the letters of a keyword start in the table
unfoldable pub start_of : ℕ → ℕ
start_of key = length (joined_names (take key names))

-- how many names at the front of the list are shorter than `size`
unfoldable pub shorter : ℕ → List (List ℕ) → ℕ
shorter size [] = zero
shorter size (n ∷ ns) = provided ltb (length n) size then suc (shorter size ns) else zero

-- the first keyword of at least this length
unfoldable pub first_of_size : ℕ → ℕ
first_of_size size = shorter size names

-- the second list starts with the first
unfoldable pub begins : List ℕ → List ℕ → Bool
begins [] t = true
begins (b ∷ s) [] = false
begins (b ∷ s) (c ∷ t) = both (eqb b c) (begins s t)

-- the table has the bytes of the name, as they are compared, from `start` on
unfoldable pub stands_at : List ℕ → List ℕ → ℕ → Bool
stands_at table name start = begins (map folded name) (drop start table)
