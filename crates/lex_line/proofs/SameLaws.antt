-- Laws of two words compared by blocks: they are the same if their first n bytes are the same and their rests are.
-- Assumes nothing.
use mathlib.Core.Path.{◌≡◌, refl, sym, ◌∙◌, ap}
use mathlib.Core.Bool.{Bool, true, false, not, true≢false, ◌&&◌}
use mathlib.Core.List.{List, [], ◌∷◌}
use Prim.Native.Nat.{ℕ, zero, suc, ◌+◌, ◌≤◌, ◌<◌}
use native.Mathlib.Numerals.{add-one}
use native.Mathlib.Omega.{arith}
use lib.ListN.{length, take, drop, get_or, drop_of_length-le}
use lib.Seq.{drop-cons}
use lib.Dec.{eqb}
use lib.Pointwise.{pointwise}
use borrow.Author.Tests.{not-true, not-false, eq-eqb}
use Rattle.base.specs.If.{both}
use Rattle.base.specs.Runs.{same}
use Rattle.base.proofs.IfLaws.{both_rest, both_not_left, by_cases, both_assoc, both_and}
use Rattle.base.proofs.RunLaws.{same_equal}

both_last : (a : Bool) → a ≡ both a true
unfolding both
both_last true = refl
both_last false = refl

same_cons : (b c : ℕ) (x y : List ℕ) → same (b ∷ x) (c ∷ y) ≡ both (eqb b c) (same x y)
unfolding same
same_cons b c x y = refl

same_none : same [] [] ≡ true
unfolding same
same_none = refl

-- the first n bytes, and the rest
pub same_split : (n : ℕ) (x y : List ℕ) → length x ≡ length y → same x y ≡ both (same (take n x) (take n y)) (same (drop n x) (drop n y))
same_split zero x y l = sym (both_rest _ _ same_none)
same_split (suc n) [] [] l = sym (both_rest _ _ same_none)
same_split (suc n) [] (c ∷ y) l = absurd (omega arith)
same_split (suc n) (b ∷ x) [] l = absurd (omega arith)
same_split (suc n) (b ∷ x) (c ∷ y) l =
    let k : length x ≡ length y = omega arith in
    let e : same x y ≡ both (same (take n x) (take n y)) (same (drop n x) (drop n y)) = same_split n x y k in
    rw (same_cons b c x y, same_cons b c (take n x) (take n y), e) (sym (both_assoc (eqb b c) _ _))

-- a loop over blocks x of a and y of b: an equal block may be skipped, and a different one decides
module _ (n : ℕ) (a b x y : List ℕ) (t goal : Bool) (long : length a ≡ length b) (inv : same a b ≡ goal) (is_x : x ≡ take n a) (is_y : y ≡ take n b) (told : t ≡ same x y) where
  blocks_told : both t (same (drop n a) (drop n b)) ≡ goal
  blocks_told =
      let s : same a b ≡ both (same (take n a) (take n b)) (same (drop n a) (drop n b)) = same_split n a b long in
      rw (told, is_x, is_y) (sym s ∙ inv)

  pub same_passed : (c d : List ℕ) → c ≡ drop n a → d ≡ drop n b → not t ≡ false → same c d ≡ goal
  same_passed c d is_c is_d e = rw (is_c, is_d) (sym (both_rest t _ (not-false t e)) ∙ blocks_told)

  pub same_differs : not t ≡ true → false ≡ goal
  same_differs e = sym (both_not_left t _ (not-true t e)) ∙ blocks_told

-- a loop within a block: what it has found, and the bytes still to compare
module _ (a b : List ℕ) (i : ℕ) (whole goal : Bool) (long : length a ≡ length b) (inv : both whole (same (drop i a) (drop i b)) ≡ goal) where
  pub within_goes : i < length a → both (whole && eqb (get_or a i 0) (get_or b i 0)) (same (drop (i + 1) a) (drop (i + 1) b)) ≡ goal
  within_goes h =
      let g : i < length b = omega arith in
      let da : drop i a ≡ get_or a i 0 ∷ drop (suc i) a = drop-cons a i 0 h in
      let db : drop i b ≡ get_or b i 0 ∷ drop (suc i) b = drop-cons b i 0 g in
      let k : both whole (same (get_or a i 0 ∷ drop (suc i) a) (get_or b i 0 ∷ drop (suc i) b)) ≡ goal = rw (da, db) at inv in
      let m : both whole (both (eqb (get_or a i 0) (get_or b i 0)) (same (drop (suc i) a) (drop (suc i) b))) ≡ goal = rw (same_cons (get_or a i 0) (get_or b i 0) (drop (suc i) a) (drop (suc i) b)) at k in
      rw (add-one i, sym (both_and whole (eqb (get_or a i 0) (get_or b i 0)))) (both_assoc whole _ _ ∙ m)

  pub within_done : length a ≤ i → whole ≡ goal
  within_done h =
      let g : length b ≤ i = omega arith in
      let k : both whole true ≡ goal = rw (drop_of_length-le a h, drop_of_length-le b g, same_none) at inv in
      both_last whole ∙ k

-- the library compares in the same way
pub pointwise_same : (a b : List ℕ) → pointwise eqb a b ≡ same a b
unfolding same
pointwise_same [] [] = refl
pointwise_same [] (c ∷ t) = refl
pointwise_same (b ∷ s) [] = refl
pointwise_same (b ∷ s) (c ∷ t) = ap (λ (rest : Bool). eqb b c && rest) (pointwise_same s t) ∙ sym (both_and (eqb b c) (same s t)) ∙ sym (same_cons b c s t)

-- two words whose bytes differ at a position are not the same
pub same_apart : (a b : List ℕ) (i : ℕ) (t : Bool) → t ≡ not (eqb (get_or a i 0) (get_or b i 0)) → t ≡ true → same a b ≡ false
same_apart a b i t told e =
    by_cases _ (same a b)
    (λ (f : same a b ≡ true). absurd (true≢false (sym (eq-eqb _ _ (ap (λ (x : List ℕ). get_or x i 0) (same_equal a b f))) ∙ not-true _ (sym told ∙ e))))
    (λ (f : same a b ≡ false). f)
