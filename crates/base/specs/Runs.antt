-- Runs: how many bytes from the front pass a test. Also whether all bytes pass, and whether two lists are equal.
-- Assumes nothing.
use Rattle.std.specs.Prelude.{ℕ, zero, suc, Bool, List, [], ◌∷◌, eqb}
use Rattle.base.specs.If.{provided◌then◌else◌, both}

-- how many bytes from the front pass the test
unfoldable pub run : (ℕ → Bool) → List ℕ → ℕ
run p [] = zero
run p (b ∷ s) = provided p b then suc (run p s) else zero

-- every byte passes the test
unfoldable pub all : (ℕ → Bool) → List ℕ → Bool
all p [] = Bool.true
all p (b ∷ s) = both (p b) (all p s)

-- the same bytes in the same order
unfoldable pub same : List ℕ → List ℕ → Bool
same [] [] = Bool.true
same [] (c ∷ t) = Bool.false
same (b ∷ s) [] = Bool.false
same (b ∷ s) (c ∷ t) = both (eqb b c) (same s t)
