-- Laws of integers, as `read_integer` uses them at each return. An integer has at most 9 digits, so nothing is capped.
-- Assumes nothing.
use mathlib.Core.Path.{◌≡◌, sym, ◌∙◌, ap, refl}
use mathlib.Core.Bool.{Bool, true, false, true≢false}
use mathlib.Core.List.{List, [], ◌∷◌}
use Prim.Native.Nat.{ℕ, ◌+◌, ◌-◌, ◌*◌, ◌^◌, ◌≤◌, ◌<◌, min, zero-le}
use native.Mathlib.Nat.{zero-add, mul-one, mul_assoc, mul-le-mul_right, pow-zero, pow-succ', pow-le-pow_right, zero-lt-suc, le_trans}
use native.Mathlib.Omega.{arith}
use Rattle.std.proofs.Common.{Option, None, Some, is_some, unwrap_or}
use lib.ListN.{length, take}
use lib.Seq.{take_all}
use lib.Dec.{eqb, leb}
use borrow.Author.Tests.{eq-eqb, ne_eqb, eqb-true, le-leb, leb-true}
use Rattle.base.specs.If.{both}
use Rattle.base.specs.Bytes.{is_digit, within}
use Rattle.base.specs.Runs.{run, all}
use Rattle.base.proofs.IfLaws.{if_true, if_false, by_cases, both_true, both_not_left, both_not_right, both_first, both_second}
use Rattle.lex_number.specs.declared.Exponent.{Exponent}
use Rattle.lex_number.specs.Integer.{value_of, is_integer, whole_of, is_whole_within}
use Rattle.lex_number.specs.Way.Capped.{exponent_cap, capped_exponent, size_at}
use Rattle.lex_number.proofs.AllLaws.{all_run}
use Rattle.lex_number.proofs.DigitLaws.{digit_to}

-- n digits, after earlier digits that write a, write a number below a + 1 times ten to the n
value_below : (s : List ℕ) (a : ℕ) → all is_digit s ≡ true → value_of a s < (a + 1) * 10 ^ length s
unfolding value_of all
value_below [] a e = rw (pow-zero 10, mul-one (a + 1)) (omega arith)
value_below (b ∷ s) a e =
    let d : b ≤ 57 = digit_to b (both_first _ _ e) in
    let h : value_of (10 * a + (b - 48)) s < (10 * a + (b - 48) + 1) * 10 ^ length s = value_below s (10 * a + (b - 48)) (both_second _ _ e) in
    let k : (10 * a + (b - 48) + 1) * 10 ^ length s ≤ (a + 1) * 10 * 10 ^ length s = mul-le-mul_right (10 ^ length s) (omega arith) in
    rw (pow-succ' 10 (length s), ← mul_assoc (a + 1) 10 (10 ^ length s)) (le_trans h k)

pub integer_below : (s : List ℕ) → is_integer s ≡ true → value_of 0 s < 1_000_000_000
unfolding is_integer within
integer_below s e =
    let h : value_of 0 s < (0 + 1) * 10 ^ length s = value_below s 0 (both_second _ _ e) in
    let n : length s ≤ 9 = leb-true (length s) 9 (both_second _ _ (both_first _ _ e)) in
    let k : 10 ^ length s ≤ 10 ^ 9 = pow-le-pow_right (zero-lt-suc 9) n in
    omega arith

-- a word of too few or too many bytes
pub integer_fails : (s : List ℕ) → (1 ≤ length s → length s ≤ 9 → ⊥) → is_integer s ≡ false
unfolding is_integer within
integer_fails s f =
    both_not_left _ _
    (by_cases _ (both (leb 1 (length s)) (leb (length s) 9))
    (λ (e : both (leb 1 (length s)) (leb (length s) 9) ≡ true). absurd (f (leb-true 1 (length s) (both_first _ _ e)) (leb-true (length s) 9 (both_second _ _ e))))
    (λ (e : both (leb 1 (length s)) (leb (length s) 9) ≡ false). e))

-- an empty word, and one that is not
module _ (s : List ℕ) (t : Bool) (told : t ≡ eqb (length s) 0) where
  pub integer_empty : t ≡ true → is_integer s ≡ false
  integer_empty e =
      let n : length s ≡ 0 = eqb-true (length s) 0 (sym told ∙ e) in
      integer_fails s (λ (low : 1 ≤ length s) (high : length s ≤ 9). omega arith)

  pub some_bytes : t ≡ false → 1 ≤ length s
  some_bytes e =
      let n : length s ≡ 0 → ⊥ = λ (h : length s ≡ 0). true≢false (sym (eq-eqb (length s) 0 h) ∙ sym told ∙ e) in
      omega arith

-- the result of `read_size` for the whole word
module _ (s : List ℕ) (x : Exponent) (read : x ≡ capped_exponent (size_at s 0 false)) where
  ends_at : x.end ≡ run is_digit s
  unfolding capped_exponent size_at
  ends_at = ap (λ (y : Exponent). y.end) read ∙ zero-add (run is_digit s)

  pub integer_other : (x.end ≡ length s → ⊥) → is_integer s ≡ false
  unfolding is_integer
  integer_other n = both_not_right _ _ (all_run is_digit s ∙ ne_eqb (run is_digit s) (length s) (λ (h : run is_digit s ≡ length s). n (ends_at ∙ h)))

  module _ (low : 1 ≤ length s) (high : length s ≤ 9) (whole : x.end ≡ length s) where
    pub integer_told : is_integer s ≡ true
    unfolding is_integer within
    integer_told = both_true _ _ (both_true _ _ (le-leb 1 (length s) low) (le-leb (length s) 9 high)) (all_run is_digit s ∙ eq-eqb (run is_digit s) (length s) (sym ends_at ∙ whole))

    pub integer_value : x.size ≡ value_of 0 s
    unfolding capped_exponent size_at
    integer_value =
        let e : x.size ≡ min (value_of 0 (take (run is_digit s) s)) exponent_cap = ap (λ (y : Exponent). y.size) read in
        let n : run is_digit s ≡ length s = sym ends_at ∙ whole in
        let t : take (run is_digit s) s ≡ s = take_all (run is_digit s) s (omega arith) in
        let f : x.size ≡ min (value_of 0 s) exponent_cap = rw t at e in
        let b : value_of 0 s < 1_000_000_000 = integer_below s integer_told in
        omega arith

pub whole_is : (s : List ℕ) (value : ℕ) → is_integer s ≡ true → value ≡ value_of 0 s → Some value ≡ whole_of s
unfolding whole_of
whole_is s value t e = rw e (sym (if_true _ _ t))

pub whole_not : (s : List ℕ) → is_integer s ≡ false → None ≡ whole_of s
unfolding whole_of
whole_not s t = sym (if_false _ _ t)

-- a word that is an integer is within the bounds that its value is within
pub whole_within : (low high : ℕ) (w : Option ℕ) → is_some w ≡ true → is_whole_within low high w ≡ within low high (unwrap_or w 0)
unfolding is_whole_within
whole_within low high None e = absurd (true≢false (sym e))
whole_within low high (Some value) e = refl

at_most : (low high : ℕ) (w : Option ℕ) → is_whole_within low high w ≡ true → unwrap_or w 0 ≤ high
unfolding is_whole_within within
at_most low high None e = zero-le
at_most low high (Some value) e = leb-true _ _ (both_second _ _ e)

-- a word that is no integer has the value 0 here, so the upper bound holds of every word
pub whole_most : (low high : ℕ) (s : List ℕ) → is_whole_within low high (whole_of s) ≡ true → unwrap_or (whole_of s) 0 ≤ high
whole_most low high s e = at_most low high (whole_of s) e
