-- Two notions: a property holds of every element of a list, and values rise. `rises` holds of the matrices of every
-- text that reads to its end. It is a test, so that a table can be tested too.
-- Assumes nothing.
use Rattle.std.specs.Prelude.{ℕ, Bool, true, List, [], ◌∷◌, leb, ltb, eqb}
use Rattle.table_record.specs.declared.Value.{Value}
use Rattle.base.specs.If.{both, either}

-- P holds of every element of a list
pub data Each {A : Type 0} (P : A → Type 0) : List A → Type 0 where
  none : Each P []
  more : {x : A} {xs : List A} → P x → Each P xs → Each P (x ∷ xs)

-- ---- values: "rising strictly with 1 <= row <= column", row first, and all at most n

unfoldable pub comes_before : Value → Value → Bool
comes_before v w = either (ltb v.row w.row) (both (eqb v.row w.row) (ltb v.column w.column))

unfoldable pub is_in_upper_half : ℕ → Value → Bool
is_in_upper_half n v = both (leb 1 v.row) (both (leb v.row v.column) (leb v.column n))

unfoldable pub rises : ℕ → List Value → Bool
rises n [] = true
rises n (v ∷ []) = is_in_upper_half n v
rises n (v ∷ w ∷ vs) = both (is_in_upper_half n v) (both (comes_before v w) (rises n (w ∷ vs)))
