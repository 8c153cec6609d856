-- The operation and its operands: m and the power of ten are held exactly, what is drawn is the exact number rounded
-- once, and it is finite and above zero.
-- Assumes nothing.
use mathlib.Core.Path.{◌≡◌, refl, sym, ap, ◌∙◌, subst}
use mathlib.Core.Bool.{true, false}
use Prim.Native.Nat.{ℕ, zero, suc, ◌+◌, ◌-◌, ◌*◌, ◌^◌, ◌≤◌, ◌<◌}
use native.Mathlib.Nat.{
  mul-one,
  mul_comm,
  mul_assoc,
  mul-pos,
  mul-mul-mul_comm,
  mul-le-mul,
  lt_of_le_of_lt,
  lt_of_lt_of_le,
  le_trans,
  pow-suc,
  pow-le-pow_right,
  one-le-pow,
  zero-lt-suc,
  lt_irrefl,
}
use native.Mathlib.Omega.{arith}
use lib.Dec.{T, ltb, lit<, lit≤, ltb→lt}
use lib.Pow.{pow-add, pow_mono, shl_lt}
use lib.Ieee.{Float, nan, inf, fin, Format, binary64, round, of_int, div, le, fits}
use lib.Ieee.Fits.{mul-fits, div-fits}
use lib.Ieee.Exact.{HasValue, round_exact}
use lib.Ieee.Back.{round_whole}
use lib.Ieee.Scale.{round_same}
use lib.Ieee.Order.{round_mono}
use lib.Ieee.Positive.{num, den, positive, den_pos, own_value, value→cross, value_pos, positive_of_value, mul_at, between}
use borrow.Author.Tests.{ne_eqb, ltb-true, ltb-false}
use Rattle.base.proofs.IfLaws.{by_test}
use Rattle.out_double.specs.Double.{span, as_double, scaled}

-- ---- the operands are exact

pub whole_exact : (n : ℕ) → n ≤ 2 ^ 53 → HasValue (as_double n) false n 1
unfolding as_double of_int
whole_exact n h = round_whole binary64 false n h

-- 10 ^ k is 5 ^ k * 2 ^ k
tens : (k : ℕ) → 10 ^ k ≡ 5 ^ k * 2 ^ k
tens zero = refl
tens (suc k) =
    rw (pow-suc 10 k, pow-suc 5 k, pow-suc 2 k)
    (ap (λ (x : ℕ). x * 10) (tens k) ∙ mul-mul-mul_comm (5 ^ k) (2 ^ k) 5 2)

-- "the exact power of ten": up to the 22nd, since 5 ^ 22 has at most 53 binary digits
pub ten_exact : (k : ℕ) → k ≤ 22 → HasValue (as_double (10 ^ k)) false (10 ^ k) 1
unfolding as_double of_int
ten_exact k h =
    let five : 5 ^ k < 2 ^ 53 = lt_of_le_of_lt (pow-le-pow_right (zero-lt-suc 4) h) (lit< tt) in
    round_exact binary64 false (10 ^ k) 1 (5 ^ k) (k + 1074) (zero-lt-suc 0) five
    (lt_of_lt_of_le (shl_lt 53 (k + 1074) five) (pow_mono {j = 2098} (omega arith)))
    (ap (λ (x : ℕ). x * 2 ^ 1074) (tens k)
    ∙ mul_assoc (5 ^ k) (2 ^ k) (2 ^ 1074)
    ∙ ap (λ (x : ℕ). 5 ^ k * x) (sym (pow-add 2 k 1074))
    ∙ sym (mul-one (5 ^ k * 2 ^ (k + 1074))))

pub ten_above : (k : ℕ) → 0 < 10 ^ k
ten_above k = one-le-pow k 10 (zero-lt-suc 9)

-- ---- the quotient of two doubles above zero, as the library's `mul_at` has their product

div_is : (f : Format) (x y : Float) → T (positive x) → T (positive y) → div f x y ≡ round f false (num x * den y) (num y * den x)
unfolding div
div_is f nan y p q = absurd p
div_is f (inf s) y p q = absurd p
div_is f (fin true m e) y p q = absurd p
div_is f (fin false m e) nan p q = absurd q
div_is f (fin false m e) (inf t) p q = absurd q
div_is f (fin false m e) (fin true n d) p q = absurd q
div_is f (fin false m e) (fin false n d) p q =
    rw (ne_eqb n 0 (λ (z : n ≡ 0). lt_irrefl 0 (subst (λ (x : ℕ). 0 < x) z (ltb→lt 0 n q))))

-- for any fractions that equal the two
div_at :
    (f : Format) (x y : Float) (a c b d : ℕ) →
    T (positive x) →
    T (positive y) →
    0 < b →
    0 < c →
    0 < d →
    HasValue x false a c →
    HasValue y false b d →
    div f x y ≡ round f false (a * d) (b * c)
div_at f x y a c b d p q B C D h k =
    div_is f x y p q
    ∙ round_same f false (num x * den y) (num y * den x) (a * d) (b * c) (mul-pos (value_pos y (num y) (den y) q (den_pos y) (own_value y q)) (den_pos x)) (mul-pos B C)
    (mul-mul-mul_comm (num x) (den y) b c ∙ crossed (num x) (den y) b c a d (num y) (den x) (value→cross x a c h) (value→cross y b d k))
  where
    crossed : (x v b c a d y u : ℕ) → x * c ≡ a * u → y * d ≡ b * v → x * b * (v * c) ≡ a * d * (y * u)
    crossed x v b c a d y u g h =
        ap (λ (z : ℕ). x * b * z) (mul_comm v c)
        ∙ mul-mul-mul_comm x b c v
        ∙ ap (λ (z : ℕ). z * (b * v)) g
        ∙ ap (λ (z : ℕ). a * u * z) (sym h ∙ mul_comm y d)
        ∙ mul-mul-mul_comm a u d y
        ∙ ap (λ (z : ℕ). a * d * z) (mul_comm u y)

-- ---- the operation

pub scaled_fits : (size shifted : ℕ) → T (fits binary64 (scaled size shifted))
unfolding scaled
scaled_fits size shifted =
    by_test (λ (x : Float). T (fits binary64 x)) (ltb shifted 64) _ _
    (λ (t : ltb shifted 64 ≡ true). div-fits binary64 (as_double size) (as_double (10 ^ (64 - shifted))))
    (λ (t : ltb shifted 64 ≡ false). mul-fits binary64 (as_double size) (as_double (10 ^ (shifted - 64))))

-- of an m that is not zero and has at most 15 digits, and a k from -22 to 22
module _ (size shifted : ℕ) (above : 0 < size) (few : size ≤ 999_999_999_999_999) (low : 64 - span ≤ shifted) (high : shifted ≤ 64 + span) where
  size_exact : HasValue (as_double size) false size 1
  size_exact = whole_exact size (omega arith)

  size_above : T (positive (as_double size))
  size_above = positive_of_value (as_double size) size 1 size_exact above

  power_above : (k : ℕ) → k ≤ 22 → T (positive (as_double (10 ^ k)))
  power_above k h = positive_of_value (as_double (10 ^ k)) (10 ^ k) 1 (ten_exact k h) (ten_above k)

  -- it is the exact number, rounded once. Subtraction stops at 0, so one fraction serves both signs of k.
  pub rounded : scaled size shifted ≡ round binary64 false (size * 10 ^ (shifted - 64)) (10 ^ (64 - shifted))
  unfolding scaled
  rounded =
      by_test (λ (x : Float). x ≡ round binary64 false (size * 10 ^ (shifted - 64)) (10 ^ (64 - shifted))) (ltb shifted 64) _ _
      (λ (t : ltb shifted 64 ≡ true).
      let h : shifted < 64 = ltb-true shifted 64 t in
      let k : 64 - shifted ≤ 22 = omega arith in
      let z : shifted - 64 ≡ 0 = omega arith in
      div_at binary64 (as_double size) (as_double (10 ^ (64 - shifted))) size 1 (10 ^ (64 - shifted)) 1 size_above
      (power_above (64 - shifted) k) (ten_above (64 - shifted)) (zero-lt-suc 0) (zero-lt-suc 0) size_exact (ten_exact (64 - shifted) k)
      ∙ rw (z, mul-one (10 ^ (64 - shifted))))
      (λ (t : ltb shifted 64 ≡ false).
      let h : 64 ≤ shifted = ltb-false shifted 64 t in
      let k : shifted - 64 ≤ 22 = omega arith in
      let z : 64 - shifted ≡ 0 = omega arith in
      mul_at binary64 (as_double size) (as_double (10 ^ (shifted - 64))) size 1 (10 ^ (shifted - 64)) 1 size_above
      (power_above (shifted - 64) k) (zero-lt-suc 0) (zero-lt-suc 0) size_exact (ten_exact (shifted - 64) k)
      ∙ rw z)

  -- it lies between two doubles that are above zero: it neither overflows nor vanishes
  pub scaled_above : T (positive (scaled size shifted))
  unfolding round
  scaled_above =
      let least : 10 ^ (64 - shifted) ≤ 10 ^ span = pow-le-pow_right {n = 10} (zero-lt-suc 9) {j = span} (omega arith) in
      let most : 10 ^ (shifted - 64) ≤ 10 ^ span = pow-le-pow_right {n = 10} (zero-lt-suc 9) {j = span} (omega arith) in
      let fifteen : 999_999_999_999_999 ≤ 10 ^ 15 = lit≤ tt in
      let some : 1 ≤ size * 10 ^ (shifted - 64) = mul-pos above (ten_above (shifted - 64)) in
      let z = round binary64 false (size * 10 ^ (shifted - 64)) (10 ^ (64 - shifted)) in
      let lower : T (le (round binary64 false 1 (10 ^ span)) z) =
      round_mono binary64 1 (10 ^ span) (size * 10 ^ (shifted - 64)) (10 ^ (64 - shifted)) (ten_above span) (ten_above (64 - shifted)) (mul-le-mul some least) in
      let upper : T (le z (round binary64 false (10 ^ 15 * 10 ^ span) 1)) =
      round_mono binary64 (size * 10 ^ (shifted - 64)) (10 ^ (64 - shifted)) (10 ^ 15 * 10 ^ span) 1 (ten_above (64 - shifted)) (zero-lt-suc 0)
      (mul-le-mul (mul-le-mul (le_trans few fifteen) most) (ten_above (64 - shifted))) in
      subst (λ (x : Float). T (positive x)) (sym rounded)
      (between (round binary64 false 1 (10 ^ span)) z (round binary64 false (10 ^ 15 * 10 ^ span) 1) tt tt lower upper)
