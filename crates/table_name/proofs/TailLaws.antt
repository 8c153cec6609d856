-- Laws of names by their ends: if the last bytes at an offset differ from those of a name, the name is not there.
-- Assumes nothing.
use mathlib.Core.Path.{◌≡◌, sym, ◌∙◌, ap}
use mathlib.Core.Bool.{Bool, true, false, not}
use mathlib.Core.List.{List, [], ◌∷◌}
use Prim.Native.Nat.{ℕ, zero, suc, ◌+◌, ◌-◌, ◌≤◌, ◌<◌}
use native.Mathlib.Nat.{sub-zero}
use native.Mathlib.Omega.{arith}
use lib.ListN.{length, take, drop, get_or, length-take}
use lib.Seq.{drop-drop, take-take, take-nil, get_or-take, get_or-drop}
use lib.Dec.{eqb}
use borrow.Author.Tests.{eqb-false, not-true}
use Rattle.base.specs.Runs.{same}
use Rattle.base.specs.Way.Joined.{joined, Joins}
use Rattle.base.proofs.IfLaws.{by_cases}
use Rattle.base.proofs.RunLaws.{same_equal}
use Rattle.table_name.specs.Name.{name_at}
use Rattle.table_name.specs.Way.Search.{Tails}

drop_take : (k n : ℕ) (l : List ℕ) → drop k (take n l) ≡ take (n - k) (drop k l)
drop_take zero n l = ap (λ (m : ℕ). take m l) (sym (sub-zero n))
drop_take (suc k) zero l =
    let z : 0 - suc k ≡ 0 = omega arith in
    ap (λ (m : ℕ). take m (drop (suc k) l)) (sym z)
drop_take (suc k) (suc n) [] = sym (take-nil (suc n - suc k))
drop_take (suc k) (suc n) (x ∷ l) =
    let e : n - k ≡ suc n - suc k = omega arith in
    drop_take k n l ∙ ap (λ (m : ℕ). take m (drop k l)) e

pub tails_short : (name : List ℕ) → length name < 4 → Tails name 0
tails_short name h = record { four = λ (k : 4 ≤ length name). absurd (omega arith) }

pub tails_four : (name : List ℕ) (tail : ℕ) → Joins (take 4 (drop (length name - 4) name)) tail → Tails name tail
tails_four name tail j = record { four = λ (k : 4 ≤ length name). j }

-- a name that is at this offset
module _ (t name : List ℕ) (start size : ℕ) (is : same name (name_at t start size) ≡ true) where
  stands : name ≡ take size (drop start t)
  unfolding name_at
  stands = same_equal name (name_at t start size) is

  long_enough : length name ≤ size
  long_enough =
      let l : length name ≡ length (take size (drop start t)) = ap length stands in
      let m : length (take size (drop start t)) ≤ size = rw (length-take size (drop start t)) (omega arith) in
      omega arith

  last_byte : (k : ℕ) → k < length name → get_or name k 0 ≡ get_or t (start + k) 0
  last_byte k h =
      let l : length name ≤ size = long_enough in
      ap (λ (x : List ℕ). get_or x k 0) stands ∙ get_or-take size (drop start t) k 0 (omega arith) ∙ get_or-drop start t k 0

  last_four : (k : ℕ) → k + 4 ≤ length name → take 4 (drop k name) ≡ take 4 (drop (start + k) t)
  last_four k h =
      let l : length name ≤ size = long_enough in
      ap (λ (x : List ℕ). take 4 (drop k x)) stands ∙ ap (take 4) (drop_take k size (drop start t))
      ∙ take-take 4 (size - k) (drop k (drop start t)) (omega arith) ∙ ap (take 4) (drop-drop k start t)

module _ (t name : List ℕ) (start : ℕ) where
  pub other_last : 1 ≤ length name → (b : Bool) → b ≡ not (eqb (get_or t (start + (length name - 1)) 0) (get_or name (length name - 1) 0)) → b ≡ true →
      (size : ℕ) → same name (name_at t start size) ≡ false
  other_last h b told e size =
      by_cases _ (same name (name_at t start size))
      (λ (is : same name (name_at t start size) ≡ true).
      absurd (eqb-false _ _ (not-true _ (sym told ∙ e)) (sym (last_byte t name start size is (length name - 1) (omega arith)))))
      (λ (no : same name (name_at t start size) ≡ false). no)

  pub other_tail : (tail r : ℕ) → Tails name tail → 4 ≤ length name → Joins (take 4 (drop (start + (length name - 4)) t)) r → (b : Bool) →
      b ≡ not (eqb r tail) → b ≡ true → (size : ℕ) → same name (name_at t start size) ≡ false
  other_tail tail r tails h joins b told e size =
      by_cases _ (same name (name_at t start size))
      (λ (is : same name (name_at t start size) ≡ true).
      absurd (eqb-false _ _ (not-true _ (sym told ∙ e))
      (joins.word ∙ ap joined (sym (last_four t name start size is (length name - 4) (omega arith))) ∙ sym (tails.four h).word)))
      (λ (no : same name (name_at t start size) ≡ false). no)
