-- Rules as data. A rule is its number of refusal and a test whether it is broken.
-- "on one line the lowest number": lists are in the order of refusal, so the first broken rule of a list is the answer.
-- Assumes nothing.
use Rattle.std.specs.Prelude.{ℕ, Bool, true, false, List, [], ◌∷◌}

pub record Rule : Type 0 where
  pub number : ℕ
  pub broken : Bool

infix 70 ◌when◌
abbrev pub ◌when◌ : ℕ → Bool → Rule
n when b = record { number = n; broken = b }

-- the number if the test is true, else the result of the later rules
unfoldable pub first : Bool → ℕ → ℕ → ℕ
first true n later = n
first false n later = later

-- the number of the first broken rule, or 0 if none is broken
abbrev pub first_broken : List Rule → ℕ
first_broken [] = 0
first_broken (r ∷ rs) = first r.broken r.number (first_broken rs)
