-- A rule for the entries of a constant table, proved for all entries at once. The checker computes the list that the
-- rule gives, which is the table, and one law says which entry is at each index of such a list.
-- Assumes nothing.
use mathlib.Core.Path.{◌≡◌, sym, ◌∙◌, ap}
use mathlib.Core.List.{List, [], ◌∷◌}
use Prim.Native.Nat.{ℕ, zero, suc, ◌+◌, ◌<◌}
use native.Mathlib.Nat.{add-zero, zero-add, add-suc, suc-add, le_of_suc-le-suc, not-suc-le-zero}
use lib.ListN.{get_or}

-- what the rule gives for `count` indexes, the first of them i
abbrev pub listed : {A : Type 0} → (ℕ → A) → ℕ → ℕ → List A
listed rule i zero = []
listed rule i (suc count) = rule i ∷ listed rule (suc i) count

listed_from_lem : {A : Type 0} (rule : ℕ → A) (none : A) (count i k : ℕ) → k < count → get_or (listed rule i count) k none ≡ rule (i + k)
listed_from_lem rule none zero i k h = absurd (not-suc-le-zero h)
listed_from_lem rule none (suc count) i zero h = ap rule (sym (add-zero i))
listed_from_lem rule none (suc count) i (suc k) h = listed_from_lem rule none count (suc i) k (le_of_suc-le-suc h) ∙ ap rule (suc-add i k ∙ sym (add-suc i k))

-- entry k of the list, whatever `none` is read past the end
pub listed_at : {A : Type 0} (rule : ℕ → A) (none : A) (count k : ℕ) → k < count → get_or (listed rule 0 count) k none ≡ rule k
listed_at rule none count k h = listed_from_lem rule none count 0 k h ∙ ap rule (zero-add k)
