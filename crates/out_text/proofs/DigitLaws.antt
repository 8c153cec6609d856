-- Laws of the digits of a number: the loop that finds them, the last one first.
-- Assumes nothing.
use mathlib.Core.Path.{◌≡◌, refl, sym, ◌∙◌, ap}
use mathlib.Core.List.{List, [], ◌∷◌, ◌++◌}
use Prim.Native.Nat.{ℕ, suc, ◌-◌, ◌/◌, ◌≤◌, ◌<◌}
use native.Mathlib.Omega.{arith}
use lib.ListN.{length, take, drop, set, replicate, length-set, length-drop}
use lib.Seq.{drop-cons, take_all, get_or-set_same, drop-set-lt}
use borrow.Author.Tests.{lt-ltb, le-ltb}
use Rattle.base.proofs.IfLaws.{if_true, if_false}
use Rattle.out_text.specs.Printing.{last_digit, digits_before, decimal}
use Rattle.out_text.specs.Written.{Written}
use Rattle.out_text.proofs.WrittenLaws.{written_is}

-- the loop's invariant: the digits of `left` and then the digits found so far are the digits of n
pub record Found (n : ℕ) (bytes : List ℕ) (from left : ℕ) : Type 0 where
  pub long : length bytes ≡ 20
  pub inside : from ≤ 20
  pub digits : digits_before from left (drop from bytes) ≡ decimal n

pub found_none : (n : ℕ) → Found n (replicate 20 0) 20 n
unfolding decimal
found_none n = record { long = refl; inside = omega arith; digits = refl }

-- a step stores the last digit of `left` in front of the digits found so far
module _ (n : ℕ) (bytes : List ℕ) (from left : ℕ) (found : Found n bytes from left) where
  pub found_all : from ≤ 0 → bytes ≡ decimal n
  unfolding digits_before
  found_all h =
      let e : from ≡ 0 = omega arith in
      ap (λ (k : ℕ). digits_before k left (drop k bytes)) (sym e) ∙ found.digits

  module _ (h : 0 < from) (digit : ℕ) (is_digit : digit ≡ last_digit left) where
    abbrev stored : List ℕ
    stored = set bytes (from - 1) digit

    stored_drop : drop (from - 1) stored ≡ last_digit left ∷ drop from bytes
    stored_drop =
        let l : length bytes ≡ 20 = found.long in
        let k : from ≤ 20 = found.inside in
        let i : from - 1 < length bytes = omega arith in
        let j : from - 1 < length stored = rw (length-set bytes (from - 1) digit) i in
        let s : suc (from - 1) ≡ from = omega arith in
        let m : from - 1 < suc (from - 1) = omega arith in
        drop-cons stored (from - 1) 0 j
        ∙ ap (λ (d : ℕ). d ∷ drop (suc (from - 1)) stored) (get_or-set_same bytes (from - 1) digit 0 i ∙ is_digit)
        ∙ ap (λ (ds : List ℕ). last_digit left ∷ ds) (drop-set-lt (suc (from - 1)) bytes (from - 1) digit m ∙ ap (λ (p : ℕ). drop p bytes) s)

    before : digits_before (suc (from - 1)) left (drop from bytes) ≡ decimal n
    before =
        let s : suc (from - 1) ≡ from = omega arith in
        ap (λ (p : ℕ). digits_before p left (drop from bytes)) s ∙ found.digits

    found_last : left < 10 → drop (from - 1) stored ≡ decimal n
    unfolding digits_before
    found_last k = stored_drop ∙ sym (if_true _ _ (lt-ltb left 10 k)) ∙ before

    pub found_on : 10 ≤ left → Found n stored (from - 1) (left / 10)
    unfolding digits_before
    found_on k =
        let l : length bytes ≡ 20 = found.long in
        let i : from ≤ 20 = found.inside in
        record {
          long = length-set bytes (from - 1) digit ∙ l;
          inside = omega arith;
          digits = ap (digits_before (from - 1) (left / 10)) stored_drop ∙ sym (if_false _ _ (le-ltb left 10 k)) ∙ before;
        }

    -- the part of the buffer that is printed: from the first digit to the end
    pub last_written : left < 10 → (a b : List ℕ) (at next after : ℕ) →
        Written a b at next (take (20 - (from - 1)) (drop (from - 1) stored) ++ (after ∷ [])) → Written a b at next (decimal n ++ (after ∷ []))
    last_written k a b at next after w =
        let l : length stored ≡ 20 = length-set bytes (from - 1) digit ∙ found.long in
        let m : length (drop (from - 1) stored) ≤ 20 - (from - 1) = rw length-drop (omega arith) in
        written_is (ap (λ (xs : List ℕ). xs ++ (after ∷ [])) (take_all (20 - (from - 1)) (drop (from - 1) stored) m ∙ found_last k)) w

  pub all_written : from ≤ 0 → (a b : List ℕ) (at next after : ℕ) → Written a b at next (bytes ++ (after ∷ [])) → Written a b at next (decimal n ++ (after ∷ []))
  all_written h a b at next after w = written_is (ap (λ (xs : List ℕ). xs ++ (after ∷ [])) (found_all h)) w
