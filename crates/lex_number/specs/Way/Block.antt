-- Several digits read as one word: the bytes of a word, and the numbers that it contains side by side.
-- Assumes nothing.
use Rattle.std.specs.Prelude.{ℕ, zero, suc, ◌+◌, ◌*◌, ◌/◌, ◌%◌, ◌^◌, ◌≡◌, Bool, true, List, [], ◌∷◌}
use Rattle.std.specs.Int.Bits.{bit_and}
use Rattle.base.specs.Bytes.{is_digit}
use Rattle.base.specs.Runs.{all}

-- the n low bytes of a word, the least significant first
unfoldable pub bytes_of : ℕ → ℕ → List ℕ
bytes_of zero word = []
bytes_of (suc n) word = word % 256 ∷ bytes_of n (word / 256)

-- an answer to whether the n low bytes of a word are digits: if it is yes, they are
pub record AreDigits (n word : ℕ) (answer : Bool) : Type 0 where
  pub are_digits : answer ≡ true → all is_digit (bytes_of n word) ≡ true

-- numbers side by side, each `width` bits wide, combined in pairs: the first times the factor, plus the second
unfoldable pub paired_digits : ℕ → ℕ → ℕ → ℕ → ℕ
paired_digits word width factor mask = bit_and (factor * word + word / 2 ^ width) mask
