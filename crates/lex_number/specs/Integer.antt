-- Document 01, "Numbers": "Integers: digits, 1 to 9 of them, else 13."
-- Assumes nothing.
use Rattle.std.specs.Prelude.{ℕ, ◌+◌, ◌-◌, ◌*◌, Bool, List, [], ◌∷◌, length, Option, None, Some}
use Rattle.base.specs.If.{provided◌then◌else◌, both}
use Rattle.base.specs.Bytes.{within, is_digit}
use Rattle.base.specs.Runs.{all}

-- the number that these digits write, when the digits before them write a
unfoldable pub value_of : ℕ → List ℕ → ℕ
value_of a [] = a
value_of a (b ∷ s) = value_of (10 * a + (b - 48)) s

unfoldable pub is_integer : List ℕ → Bool
is_integer s = both (within 1 9 (length s)) (all is_digit s)

-- the value of a word that is an integer
unfoldable pub whole_of : List ℕ → Option ℕ
whole_of s = provided is_integer s then Some (value_of 0 s) else None

-- an integer is within its bounds; if not, it breaks 14. A word that is no integer breaks 13, and no bounds
abbrev pub is_whole_within : ℕ → ℕ → Option ℕ → Bool
is_whole_within low high None = Bool.true
is_whole_within low high (Some value) = within low high value
