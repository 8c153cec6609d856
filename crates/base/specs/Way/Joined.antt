-- Several bytes as one number, the first byte the least significant.
-- Assumes nothing.
use Rattle.std.specs.Prelude.{ℕ, ◌+◌, ◌*◌, ◌≡◌, Bool, true, List, [], ◌∷◌, ltb}
use Rattle.base.specs.Runs.{all}

unfoldable pub joined : List ℕ → ℕ
joined [] = 0
joined (b ∷ s) = b + 256 * joined s

unfoldable pub is_byte : ℕ → Bool
is_byte b = ltb b 256

-- r is the number that these bytes make, and all of them are bytes, so that r determines them
pub record Joins (s : List ℕ) (r : ℕ) : Type 0 where
  pub word : r ≡ joined s
  pub bytes : all is_byte s ≡ true
