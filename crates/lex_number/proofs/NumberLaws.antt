-- Laws of numbers: "the value is m times ten to the k, m not ending in 0" holds for the digits of any word, and the
-- word of a number that is read is a value word.
-- Assumes nothing.
use mathlib.Core.Path.{◌≡◌, refl, sym, ◌∙◌, ap}
use mathlib.Core.Bool.{Bool, true, false}
use mathlib.Core.List.{List, [], ◌∷◌}
use mathlib.Core.Logic.{◌⊎◌, inl, inr, ⊎_elim}
use Prim.Native.Nat.{ℕ, zero, suc, ◌+◌, ◌-◌, ◌*◌, ◌%◌, ◌^◌, ◌≤◌}
use native.Mathlib.Nat.{mul-one, mul_assoc, pow-zero, pow-suc, add-zero, add-suc}
use native.Mathlib.Numerals.{add-one}
use native.Mathlib.Omega.{arith}
use lib.ListN.{drop, get_or}
use lib.Dec.{eqb}
use borrow.Author.Tests.{eq-eqb, ne_eqb, eqb-true, eqb-false}
use Rattle.base.specs.Bytes.{is_digit}
use Rattle.base.proofs.IfLaws.{if_true, if_false, by_cases, by_test, either_comes, both_not_left}
use Rattle.lex_number.specs.declared.Digits.{Digits}
use Rattle.lex_number.specs.declared.Scale.{Scale}
use Rattle.std.proofs.Common.{Ok, Err}
use Rattle.lex_number.specs.declared.NumberError.TheVariants.{Malformed, Range}
use Rattle.lex_number.specs.ValueWord.{zero_word, value_word, decimal_of, is_value_word}
use Rattle.lex_number.specs.Number.{Number, is_minus, is_point, past_sign, no_digits, digits_go_on, with_point, with_digit, with_byte, scan, digits_of, exponent_from, scale_of, raised, lowered, in_range, value_as, well_formed, number_from, number_of}
use Rattle.lex_number.specs.Way.Capped.{raising}
use Rattle.lex_number.proofs.CappedLaws.{scan_goes, scan_stops, scan_ends}
use Rattle.lex_number.proofs.DigitLaws.{digit_to}
use Rattle.lex_number.proofs.ValueLaws.{Stands, stands_told, value_zero, value_inside, value_outside}
use Rattle.lex_number.proofs.WordLaws.{decode_build, word_zero, word_written}

-- m is `size`: the digits write m with `zeros` zeros after it, and m is 0 or does not end in 0
pub record Shaped (d : Digits) : Type 0 where
  pub whole : d.all ≡ d.size * 10 ^ d.zeros
  pub trimmed : (d.size ≡ 0) ⊎ (d.size % 10 ≡ 0 → ⊥)

shaped_point : (d : Digits) → Shaped d → Shaped (with_point d)
unfolding with_point
shaped_point d k = record { whole = k.whole; trimmed = k.trimmed }

one_zero_more : (all size zeros : ℕ) → all ≡ size * 10 ^ zeros → 10 * all + 0 ≡ size * 10 ^ (zeros + 1)
one_zero_more all size zeros e =
    let p : size * 10 ^ (zeros + 1) ≡ size * 10 ^ zeros * 10 = rw (add-one zeros, pow-suc 10 zeros) (sym (mul_assoc size (10 ^ zeros) 10)) in
    let q : size * 10 ^ (zeros + 1) ≡ all * 10 = p ∙ ap (λ (n : ℕ). n * 10) (sym e) in
    omega arith

shaped_zero : (d : Digits) (v : ℕ) → v ≡ 0 → Shaped d → Shaped (with_digit d v)
unfolding with_digit
shaped_zero d v e k =
    let t : eqb v 0 ≡ true = eq-eqb v 0 e in
    let w : 10 * d.all + v ≡ d.size * 10 ^ (d.zeros + 1) = rw e (one_zero_more d.all d.size d.zeros k.whole) in
    record {
      whole = rw (if_true d.size (10 * d.all + v) t, if_true (d.zeros + 1) 0 t) w;
      trimmed = rw (if_true d.size (10 * d.all + v) t) k.trimmed;
    }

shaped_digit : (d : Digits) (v : ℕ) → v ≤ 9 → (v ≡ 0 → ⊥) → Shaped (with_digit d v)
unfolding with_digit
shaped_digit d v h n =
    let t : eqb v 0 ≡ false = ne_eqb v 0 n in
    let w : 10 * d.all + v ≡ (10 * d.all + v) * 10 ^ 0 = sym (rw (pow-zero 10) (mul-one (10 * d.all + v))) in
    record {
      whole = rw (if_false d.size (10 * d.all + v) t, if_false (d.zeros + 1) 0 t) w;
      trimmed = rw (if_false d.size (10 * d.all + v) t) (inr (λ (z : (10 * d.all + v) % 10 ≡ 0). omega arith));
    }

shaped_next : (d : Digits) (b : ℕ) → digits_go_on d b ≡ true → Shaped d → Shaped (with_byte d b)
unfolding with_byte digits_go_on
shaped_next d b goes k = by_test Shaped (is_point b) _ _ (λ (e : is_point b ≡ true). shaped_point d k) other
  where
    other : is_point b ≡ false → Shaped (with_digit d (b - 48))
    other e =
        let t : is_digit b ≡ true = sym (either_comes _ _ (both_not_left _ _ e)) ∙ goes in
        let h : b ≤ 57 = digit_to b t in
        by_cases _ (eqb (b - 48) 0)
        (λ (z : eqb (b - 48) 0 ≡ true). shaped_zero d (b - 48) (eqb-true (b - 48) 0 z) k)
        (λ (z : eqb (b - 48) 0 ≡ false). shaped_digit d (b - 48) (omega arith) (eqb-false (b - 48) 0 z))

scan_shaped : (s : List ℕ) (d : Digits) → Shaped d → Shaped (scan s d)
scan_shaped [] d k = rw (scan_ends d) k
scan_shaped (b ∷ s) d k =
    by_cases _ (digits_go_on d b)
    (λ (e : digits_go_on d b ≡ true). rw (scan_goes b s d e) (scan_shaped s (with_byte d b) (shaped_next d b e k)))
    (λ (e : digits_go_on d b ≡ false). rw (scan_stops b s d e) k)

shaped_none : (from : ℕ) → Shaped (no_digits from)
unfolding no_digits
shaped_none from = record { whole = refl; trimmed = inl refl }

-- for the digits of any word: the number that they write is m times ten to the count of zeros after m, and m is 0 or
-- does not end in 0
pub digits_shaped : (s : List ℕ) → Shaped (digits_of s)
unfolding digits_of
digits_shaped s = scan_shaped (drop (past_sign s 0) s) (no_digits (past_sign s 0)) (shaped_none (past_sign s 0))

-- the scale of the letter that follows a word's exponent
unfoldable pub scale_in : List ℕ → Scale
scale_in s = scale_of (get_or s (exponent_from s (digits_of s)).end 0)

never_malformed : (P : Type 0) (w : ℕ) → Err Malformed ≡ Ok w → P
never_malformed P w e = let z : ◌≡◌ {A = ℕ} 0 1 = cc in absurd (omega arith)

never_range : (P : Type 0) (w : ℕ) → Err Range ≡ Ok w → P
never_range P w e = let z : ◌≡◌ {A = ℕ} 0 1 = cc in absurd (omega arith)

same_word_lem : (v w : ℕ) → ◌≡◌ {A = Number} (Ok v) (Ok w) → w ≡ v
same_word_lem v w e = cc

-- a number that is not zero and has a value is within its bounds, and its word is the one that the definition builds
stands_as : (negative : Bool) (m up down w : ℕ) → (m ≡ 0 → ⊥) → value_as negative m up down ≡ Ok w → Stands m up down × (w ≡ value_word negative m (up + 64 - down))
stands_as negative m up down w n e =
    by_cases _ (in_range m up down)
    (λ (r : in_range m up down ≡ true). (stands_told m up down r, same_word_lem (value_word negative m (up + 64 - down)) w (sym (value_inside negative m up down n r) ∙ e)))
    (λ (r : in_range m up down ≡ false). never_range _ w (sym (value_outside negative m up down n r) ∙ e))

value_is_word : (negative : Bool) (m up down w : ℕ) → ((m ≡ 0) ⊎ (m % 10 ≡ 0 → ⊥)) → value_as negative m up down ≡ Ok w → is_value_word w ≡ true
value_is_word negative m up down w t e =
    by_cases _ (eqb m 0)
    (λ (z : eqb m 0 ≡ true). word_zero w (same_word_lem zero_word w (sym (value_zero negative m up down (eqb-true m 0 z)) ∙ e)))
    (λ (z : eqb m 0 ≡ false). stands (eqb-false m 0 z) (stands_as negative m up down w (eqb-false m 0 z) e))
  where
    stands : (m ≡ 0 → ⊥) → Stands m up down × (w ≡ value_word negative m (up + 64 - down)) → is_value_word w ≡ true
    stands n k =
        word_written w
        (record {
          negative = negative;
          size = m;
          shifted = up + 64 - down;
          word = k.1;
          some = omega arith;
          few = omega (arith, k.0.small);
          trimmed = ⊎_elim (λ (z : m ≡ 0). absurd (n z)) (λ (z : m % 10 ≡ 0 → ⊥). z) t;
          low = omega (arith, k.0.low);
          high = omega (arith, k.0.high);
        })

-- if `number_of` gives a value, the number is well formed and has that value
value_told : (s : List ℕ) (w : ℕ) → number_of s ≡ Ok w → value_as (is_minus (get_or s 0 0)) (digits_of s).size (raised (digits_of s) (exponent_from s (digits_of s)) (scale_in s)) (lowered (digits_of s) (exponent_from s (digits_of s)) (scale_in s)) ≡ Ok w
unfolding number_of number_from scale_in
value_told s w e =
    by_cases _ (well_formed s (digits_of s) (exponent_from s (digits_of s)))
    (λ (t : well_formed s (digits_of s) (exponent_from s (digits_of s)) ≡ true). sym (if_true _ _ t) ∙ e)
    (λ (t : well_formed s (digits_of s) (exponent_from s (digits_of s)) ≡ false). never_malformed _ w (sym (if_false _ _ t) ∙ e))

-- the word of a number that is read is a value word
pub number_word : (s : List ℕ) (w : ℕ) → number_of s ≡ Ok w → is_value_word w ≡ true
number_word s w e = value_is_word _ _ _ _ w (digits_shaped s).trimmed (value_told s w e)

-- the value word of a number that is not zero contains its sign, its m and its k
pub number_decimal : (s : List ℕ) (w : ℕ) → number_of s ≡ Ok w → ((digits_of s).size ≡ 0 → ⊥) → decimal_of w ≡ record { negative = is_minus (get_or s 0 0); size = (digits_of s).size; shifted = raised (digits_of s) (exponent_from s (digits_of s)) (scale_in s) + 64 - lowered (digits_of s) (exponent_from s (digits_of s)) (scale_in s) }
number_decimal s w e n =
    let k : Stands (digits_of s).size (raised (digits_of s) (exponent_from s (digits_of s)) (scale_in s)) (lowered (digits_of s) (exponent_from s (digits_of s)) (scale_in s)) × (w ≡ value_word (is_minus (get_or s 0 0)) (digits_of s).size (raised (digits_of s) (exponent_from s (digits_of s)) (scale_in s) + 64 - lowered (digits_of s) (exponent_from s (digits_of s)) (scale_in s))) = stands_as _ _ _ _ w n (value_told s w e) in
    rw k.1 (decode_build _ _ _ (omega (arith, k.0.high)))

power_split : (all m zeros rest : ℕ) → all ≡ m * 10 ^ zeros → m * 10 ^ (zeros + rest) ≡ all * 10 ^ rest
power_split all m zeros zero e = rw (add-zero zeros, pow-zero 10, mul-one all) (sym e)
power_split all m zeros (suc rest) e =
    rw (add-suc zeros rest, pow-suc 10 (zeros + rest), pow-suc 10 rest, ← mul_assoc m (10 ^ (zeros + rest)) 10, ← mul_assoc all (10 ^ rest) 10)
    (ap (λ (n : ℕ). n * 10) (power_split all m zeros rest e))

-- "the value is m times ten to the k": the digits as written, times ten to what raises them, are m times ten to the k
-- and to what lowers them. Both sides have 64 powers of ten more, because the word stores k + 64, which is not negative
pub number_power : (s : List ℕ) (w : ℕ) → number_of s ≡ Ok w → ((digits_of s).size ≡ 0 → ⊥) → (decimal_of w).size * 10 ^ ((decimal_of w).shifted + lowered (digits_of s) (exponent_from s (digits_of s)) (scale_in s)) ≡ (digits_of s).all * 10 ^ (raising (exponent_from s (digits_of s)) + (scale_in s).up + 64)
unfolding raised raising
number_power s w e n =
    let k : Stands (digits_of s).size (raised (digits_of s) (exponent_from s (digits_of s)) (scale_in s)) (lowered (digits_of s) (exponent_from s (digits_of s)) (scale_in s)) = (stands_as _ _ _ _ w n (value_told s w e)).0 in
    let p : raised (digits_of s) (exponent_from s (digits_of s)) (scale_in s) + 64 - lowered (digits_of s) (exponent_from s (digits_of s)) (scale_in s) + lowered (digits_of s) (exponent_from s (digits_of s)) (scale_in s) ≡ (digits_of s).zeros + (raising (exponent_from s (digits_of s)) + (scale_in s).up + 64) = omega (arith, k.low) in
    rw (number_decimal s w e n, p) (power_split (digits_of s).all (digits_of s).size (digits_of s).zeros (raising (exponent_from s (digits_of s)) + (scale_in s).up + 64) (digits_shaped s).whole)
