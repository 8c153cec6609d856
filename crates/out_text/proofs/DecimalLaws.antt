-- A number in decimal digits reads back as the number, and has no leading zero. No code needs this: it shows that
-- `decimal` is what its name says.
-- Assumes nothing.
use mathlib.Core.Path.{◌≡◌, ◌∙◌, ap}
use mathlib.Core.Bool.{true, false}
use mathlib.Core.List.{List, [], ◌∷◌}
use Prim.Native.Nat.{ℕ, zero, suc, ◌+◌, ◌-◌, ◌*◌, ◌/◌, ◌%◌, ◌^◌, ◌≤◌, ◌<◌}
use native.Mathlib.Nat.{div-add-mod', mod-eq_of_lt, mod-lt}
use native.Mathlib.Omega.{arith}
use lib.ListN.{get_or}
use lib.Dec.{ltb}
use borrow.Author.Tests.{ltb-true, ltb-false}
use Rattle.base.proofs.IfLaws.{by_test}
use Rattle.out_text.specs.Printing.{last_digit, digits_before, decimal}

-- the number after reading the digits, where n was read before them
unfoldable pub number_after : ℕ → List ℕ → ℕ
number_after n [] = n
number_after n (digit ∷ digits) = number_after (10 * n + (digit - 48)) digits

tenth_below : (most n : ℕ) → n < 10 ^ suc most → n / 10 < 10 ^ most
tenth_below most n h =
    let d : n / 10 * 10 + n % 10 ≡ n = div-add-mod' n 10 in
    omega arith

reads_before : (most n : ℕ) (digits : List ℕ) → n < 10 ^ most → number_after 0 (digits_before most n digits) ≡ number_after n digits
unfolding number_after digits_before last_digit
reads_before zero n digits h =
    let e : 0 ≡ n = omega arith in
    ap (λ (k : ℕ). number_after k digits) e
reads_before (suc most) n digits h =
    by_test (λ (ds : List ℕ). number_after 0 ds ≡ number_after n digits) (ltb n 10) _ _
    (λ (e : ltb n 10 ≡ true). ap (λ (k : ℕ). number_after k digits) (one (ltb-true n 10 e)))
    (λ (e : ltb n 10 ≡ false). reads_before most (n / 10) (last_digit n ∷ digits) (tenth_below most n h) ∙ ap (λ (k : ℕ). number_after k digits) more)
  where
    one : n < 10 → 10 * 0 + (48 + n % 10 - 48) ≡ n
    one k =
        let m : n % 10 ≡ n = mod-eq_of_lt k in
        omega arith

    more : 10 * (n / 10) + (48 + n % 10 - 48) ≡ n
    more =
        let d : n / 10 * 10 + n % 10 ≡ n = div-add-mod' n 10 in
        omega arith

pub decimal_reads : (n : ℕ) → n < 10 ^ 20 → number_after 0 (decimal n) ≡ n
unfolding number_after decimal
decimal_reads n h = reads_before 20 n [] h

first_before : (most n : ℕ) (digits : List ℕ) → 0 < n → n < 10 ^ most → 48 < get_or (digits_before most n digits) 0 0
unfolding digits_before last_digit
first_before zero n digits h k = absurd (omega arith)
first_before (suc most) n digits h k =
    by_test (λ (ds : List ℕ). 48 < get_or ds 0 0) (ltb n 10) _ _
    (λ (e : ltb n 10 ≡ true). one (ltb-true n 10 e))
    (λ (e : ltb n 10 ≡ false). first_before most (n / 10) (last_digit n ∷ digits) (more (ltb-false n 10 e)) (tenth_below most n k))
  where
    one : n < 10 → 48 < 48 + n % 10
    one j =
        let m : n % 10 ≡ n = mod-eq_of_lt j in
        omega arith

    more : 10 ≤ n → 0 < n / 10
    more j =
        let d : n / 10 * 10 + n % 10 ≡ n = div-add-mod' n 10 in
        let m : n % 10 < 10 = mod-lt n (omega arith) in
        omega arith

-- the first digit of a number above 0 is above 0
pub decimal_opens : (n : ℕ) → 0 < n → n < 10 ^ 20 → 48 < get_or (decimal n) 0 0
unfolding decimal
decimal_opens n h k = first_before 20 n [] h k
