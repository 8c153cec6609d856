-- Laws of the zeros at the end of a number: the loop that removes them, and that the size and the count of zeros are
-- unique. So zeros may be counted digit by digit, or removed from the whole number afterwards.
-- Assumes nothing.
use mathlib.Core.Path.{◌≡◌, refl, sym, ◌∙◌, ap}
use mathlib.Core.Bool.{Bool}
use mathlib.Core.Logic.{◌⊎◌, ⊎_elim}
use Prim.Native.Nat.{ℕ, zero, suc, ◌+◌, ◌*◌, ◌/◌, ◌%◌, ◌^◌, ◌≤◌, ◌<◌}
use mir.Syntax.{w64}
use mir.Val.{Fits}
use native.Mathlib.Nat.{mul-one, mul_assoc, mul_comm, mul-le-mul_right, pow-zero, pow-suc, pow-le-pow_right, zero-lt-suc}
use native.Mathlib.Numerals.{add-one}
use native.Mathlib.Omega.{arith}
use lib.Dec.{leb}
use borrow.Author.Tests.{leb-true, leb-false}
use Rattle.base.proofs.IfLaws.{by_cases}
use Rattle.lex_number.specs.declared.Digits.{Digits}
use Rattle.lex_number.specs.declared.Scale.{Scale}
use Rattle.lex_number.specs.Number.{Number, raised, lowered, value_as}
use Rattle.std.proofs.Common.{Ok}
use Rattle.lex_number.specs.declared.fast.Parts.{Parts}
use Rattle.lex_number.specs.ValueWord.{zero_word}
use Rattle.lex_number.specs.Way.Capped.{raising, lowering}
use Rattle.lex_number.specs.Way.At.{Splits, Says}
use Rattle.lex_number.proofs.ValueLaws.{value_zero}

-- one more zero: ten times the number
ten_times : (size zeros : ℕ) → size * 10 ^ suc zeros ≡ 10 * (size * 10 ^ zeros)
ten_times size zeros =
    let p : size * 10 ^ suc zeros ≡ size * 10 ^ zeros * 10 = rw (pow-suc 10 zeros) (sym (mul_assoc size (10 ^ zeros) 10)) in
    omega arith

-- ---- the loop

pub power_some : (n : ℕ) → 1 ≤ 10 ^ n
power_some n =
    let h : 0 ≤ n = omega arith in
    let k : 10 ^ 0 ≤ 10 ^ n = pow-le-pow_right (zero-lt-suc 9) h in
    rw (pow-zero 10) at k

-- a number of 64 bits ends in fewer than 20 zeros
pub zeros_few : (all size zeros : ℕ) → all < 2 ^ 64 → 0 < size → all ≡ size * 10 ^ zeros → zeros < 20
zeros_few all size zeros h some e =
    by_cases _ (leb 20 zeros)
    (λ (t : leb 20 zeros ≡ Bool.true).
    let k : 10 ^ 20 ≤ 10 ^ zeros = pow-le-pow_right (zero-lt-suc 9) (leb-true 20 zeros t) in
    let m : 1 * 10 ^ zeros ≤ size * 10 ^ zeros = mul-le-mul_right (10 ^ zeros) some in
    absurd (omega arith))
    (λ (t : leb 20 zeros ≡ Bool.false). omega (arith, leb-false 20 zeros t))

pub zeros_fit : (all size zeros : ℕ) → all < 2 ^ 64 → 0 < size → all ≡ size * 10 ^ zeros → Fits w64 (zeros + 1)
zeros_fit all size zeros h some e =
    let k : zeros < 20 = zeros_few all size zeros h some e in
    omega arith

pub trim_start : (all : ℕ) → all ≡ all * 10 ^ 0
trim_start all = sym (mul-one all)

pub trim_on : (all size zeros : ℕ) → size % 10 ≡ 0 → all ≡ size * 10 ^ zeros → all ≡ size / 10 * 10 ^ (zeros + 1)
trim_on all size zeros t e =
    let k : size ≡ 10 * (size / 10) = omega arith in
    let q : size / 10 * 10 ^ suc zeros ≡ 10 * (size / 10 * 10 ^ zeros) = ten_times (size / 10) zeros in
    let m : 10 * (size / 10) * 10 ^ zeros ≡ 10 * (size / 10 * 10 ^ zeros) = mul_assoc 10 (size / 10) (10 ^ zeros) in
    let n : size * 10 ^ zeros ≡ 10 * (size / 10) * 10 ^ zeros = ap (λ (x : ℕ). x * 10 ^ zeros) k in
    rw (add-one zeros) (e ∙ n ∙ m ∙ sym q)

pub trim_left : (size : ℕ) → size % 10 ≡ 0 → 0 < size → 0 < size / 10
trim_left size t h = omega arith

pub trim_done : (all size zeros : ℕ) → (size % 10 ≡ 0 → ⊥) → all ≡ size * 10 ^ zeros → Splits all size zeros
trim_done all size zeros n e = record { whole = e; trimmed = n }

-- ---- one size, one count of zeros

pub one_split : (a m b n : ℕ) → a * 10 ^ m ≡ b * 10 ^ n → (a % 10 ≡ 0 → ⊥) → (b % 10 ≡ 0 → ⊥) → (a ≡ b) × (m ≡ n)
one_split a zero b zero e f g = (sym (mul-one a) ∙ e ∙ mul-one b, refl)
one_split a zero b (suc n) e f g =
    let k : a ≡ 10 * (b * 10 ^ n) = sym (mul-one a) ∙ e ∙ ten_times b n in
    absurd (f (omega arith))
one_split a (suc m) b zero e f g =
    let k : b ≡ 10 * (a * 10 ^ m) = sym (mul-one b) ∙ sym e ∙ ten_times a m in
    absurd (g (omega arith))
one_split a (suc m) b (suc n) e f g =
    let k : 10 * (a * 10 ^ m) ≡ 10 * (b * 10 ^ n) = sym (ten_times a m) ∙ e ∙ ten_times b n in
    let h : a * 10 ^ m ≡ b * 10 ^ n = omega arith in
    let r : (a ≡ b) × (m ≡ n) = one_split a m b n h f g in
    (r.0, ap suc r.1)

no_size : (size zeros : ℕ) → size * 10 ^ zeros ≡ 0 → size ≡ 0
no_size size zeros e =
    let p : 1 ≤ 10 ^ zeros = power_some zeros in
    let c : size * 10 ^ zeros ≡ 10 ^ zeros * size = mul_comm size (10 ^ zeros) in
    let m : 1 * size ≤ 10 ^ zeros * size = mul-le-mul_right size p in
    omega arith

-- ---- the value

module _ (p : Parts) (c : Scale) where
  pub says_zero : p.digits.all ≡ 0 → Says p c (Ok zero_word)
  says_zero z =
      record {
        says = λ (e : Digits) (a : e.all ≡ p.digits.all) (f : e.fraction ≡ p.digits.fraction) (whole : e.all ≡ e.size * 10 ^ e.zeros) (trimmed : (e.size ≡ 0) ⊎ (e.size % 10 ≡ 0 → ⊥)).
            sym (value_zero p.negative e.size (raised e p.exponent c) (lowered e p.exponent c) (no_size e.size e.zeros (sym whole ∙ a ∙ z)));
      }

  pub says_value :
      (size zeros m n up down : ℕ) (r : Number) →
      (p.digits.all ≡ 0 → ⊥) →
      Splits p.digits.all size zeros →
      m ≡ raising p.exponent →
      n ≡ lowering p.exponent →
      up ≡ zeros + m + c.up →
      down ≡ p.digits.fraction + n + c.down →
      r ≡ value_as p.negative size up down →
      Says p c r
  unfolding raised lowered raising lowering
  says_value size zeros m n up down r some split add take raise lower v =
      record {
        says = λ (e : Digits) (a : e.all ≡ p.digits.all) (f : e.fraction ≡ p.digits.fraction) (whole : e.all ≡ e.size * 10 ^ e.zeros) (trimmed : (e.size ≡ 0) ⊎ (e.size % 10 ≡ 0 → ⊥)).
            let k : e.size % 10 ≡ 0 → ⊥ = ⊎_elim (λ (z : e.size ≡ 0). absurd (some (sym a ∙ whole ∙ ap (λ (y : ℕ). y * 10 ^ e.zeros) z ∙ none e.zeros))) (λ (h : e.size % 10 ≡ 0 → ⊥). h) trimmed in
            let t : (e.size ≡ size) × (e.zeros ≡ zeros) = one_split e.size e.zeros size zeros (sym whole ∙ a ∙ split.whole) k split.trimmed in
            rw (t.0, t.1, f) (rw (raise, lower, add, take) at v);
      }
    where
      none : (n : ℕ) → 0 * 10 ^ n ≡ 0
      none n = omega arith
