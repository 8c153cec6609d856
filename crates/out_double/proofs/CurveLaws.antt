-- What request 11 promises of the doubles that are drawn: the exact number rounded once; the number itself if it is whole and
-- below two to the 53; its sign; plus zero for zero; never a NaN; bits that determine the double; and nothing outside the span.
-- Assumes nothing.
use mathlib.Core.Path.{◌≡◌, refl, sym, ap, ◌∙◌, subst}
use mathlib.Core.Bool.{Bool, true, false, not}
use mathlib.Core.Logic.{◌⊎◌, ⊎_elim}
use Prim.Native.Nat.{ℕ, suc, ◌+◌, ◌-◌, ◌*◌, ◌%◌, ◌^◌, ◌≤◌, ◌<◌}
use native.Mathlib.Nat.{mul-one, mul_assoc, mul-mod_left, mul-le-mul, pow-suc, pow-le-pow_right, le_of_lt, le_of_eq, le_trans, zero-lt-suc}
use native.Mathlib.Omega.{arith}
use lib.Dec.{T, ltb}
use lib.IntN.{pos}
use lib.Ieee.{Float, nan, inf, fin, binary64, round, of_int, of_bits, to_bits, mul, fits, is_nan}
use lib.Ieee.Bits.{of_bits-to_bits}
use lib.Ieee.Back.{round_whole}
use lib.Ieee.Exact.{HasValue}
use lib.Ieee.Positive.{num, den, den_pos, own_value, value_pos}
use lib.Ieee.Scale.{finite, round_same}
use borrow.Author.Tests.{le-leb, lt-leb, ltb-true, ltb-false}
use Rattle.std.proofs.Common.{Option, Some, None}
use Rattle.base.specs.If.{provided◌then◌else◌, both, either}
use Rattle.base.specs.Bytes.{within}
use Rattle.base.proofs.IfLaws.{if_true, if_false, by_cases, both_true, both_not_left, both_not_right, both_first}
use Rattle.lex_number.specs.ValueWord.{zero_word, decimal_of, is_value_word}
use Rattle.lex_number.proofs.WordLaws.{Written, word_says, decoded}
use Rattle.out_double.specs.Double.{span, as_double, scaled, signed, double, is_drawn, drawn_of, paired}
use Rattle.out_double.proofs.DrawLaws.{spanned}
use Rattle.out_double.proofs.ExactLaws.{ten_above, scaled_fits, scaled_above, rounded}
use Rattle.out_double.proofs.SignLaws.{signed_round, signed_value, signed_fits}

-- m times ten to the k as a fraction. Subtraction stops at 0, so one of the two powers is ten to the 0.
abbrev pub numerator : ℕ → ℕ
numerator w = (decimal_of w).size * 10 ^ ((decimal_of w).shifted - 64)

abbrev pub denominator : ℕ → ℕ
denominator w = 10 ^ (64 - (decimal_of w).shifted)

-- ---- what is drawn, and what is outside

drawn_is : (w : ℕ) → is_drawn w ≡ true → drawn_of w ≡ Some (double (decimal_of w))
unfolding drawn_of
drawn_is w e = if_true _ _ e

in_span : (w : ℕ) → is_value_word w ≡ true → 64 - span ≤ (decimal_of w).shifted → (decimal_of w).shifted ≤ 64 + span → is_drawn w ≡ true
unfolding is_drawn within
in_span w e low high = both_true _ _ e (both_true _ _ (le-leb _ _ low) (le-leb _ _ high))

-- every value word "with k from -22 to 22" is drawn
pub inside_span : (w : ℕ) → is_value_word w ≡ true → 64 - span ≤ (decimal_of w).shifted → (decimal_of w).shifted ≤ 64 + span → drawn_of w ≡ Some (double (decimal_of w))
inside_span w e low high = drawn_is w (in_span w e low high)

-- "Outside that span say so and give no number"
pub outside_span : (w : ℕ) → ((decimal_of w).shifted < 64 - span) ⊎ (64 + span < (decimal_of w).shifted) → drawn_of w ≡ None
unfolding drawn_of is_drawn within
outside_span w h =
    if_false _ _
    (both_not_right _ _
    (⊎_elim
    (λ (k : (decimal_of w).shifted < 64 - span). both_not_left _ _ (lt-leb (64 - span) (decimal_of w).shifted k))
    (λ (k : 64 + span < (decimal_of w).shifted). both_not_right _ _ (lt-leb (decimal_of w).shifted (64 + span) k))
    h))

pub outside_word : (w : ℕ) → is_value_word w ≡ false → drawn_of w ≡ None
unfolding drawn_of is_drawn
outside_word w e = if_false _ _ (both_not_left _ _ e)

-- the two parts of a pair that is drawn
abbrev first_in : Option (Float × Float) → Option Float
first_in None = None
first_in (Some p) = Some p.0

abbrev second_in : Option (Float × Float) → Option Float
second_in None = None
second_in (Some p) = Some p.1

first_of : (p q : Option Float) (x y : Float) → paired p q ≡ Some (x, y) → p ≡ Some x
unfolding paired
first_of (Some a) (Some b) x y e = ap first_in e
first_of (Some a) None x y e = cc
first_of None q x y e = cc

second_of_lem : (p q : Option Float) (x y : Float) → paired p q ≡ Some (x, y) → q ≡ Some y
unfolding paired
second_of_lem (Some a) (Some b) x y e = ap second_in e
second_of_lem (Some a) None x y e = cc
second_of_lem None q x y e = cc

-- "drawing a pair of a frequency and a value answers outside if either is"
module _ (frequency value : ℕ) where
  pub pair_without_frequency : drawn_of frequency ≡ None → paired (drawn_of frequency) (drawn_of value) ≡ None
  unfolding paired
  pair_without_frequency e = rw e

  pub pair_without_value : drawn_of value ≡ None → paired (drawn_of frequency) (drawn_of value) ≡ None
  unfolding paired
  pair_without_value e = ap (paired (drawn_of frequency)) e ∙ none (drawn_of frequency)
    where
      none : (f : Option Float) → paired f None ≡ None
      none (Some x) = refl
      none None = refl

  pub pair_of_both : (x y : Float) → drawn_of frequency ≡ Some x → drawn_of value ≡ Some y → paired (drawn_of frequency) (drawn_of value) ≡ Some (x, y)
  unfolding paired
  pair_of_both x y e f = rw (e, f)

-- if a pair is drawn, so is each of the two
module _ (frequency value : ℕ) (x y : Float) (e : paired (drawn_of frequency) (drawn_of value) ≡ Some (x, y)) where
  pub pair_frequency : drawn_of frequency ≡ Some x
  pair_frequency = first_of (drawn_of frequency) (drawn_of value) x y e

  pub pair_value : drawn_of value ≡ Some y
  pair_value = second_of_lem (drawn_of frequency) (drawn_of value) x y e

-- ---- what an answer says of its word

abbrev value_in : Option Float → Float
value_in (Some x) = x
value_in None = nan

abbrev IsValue : Option Float → Type 0
IsValue (Some x) = Unit {0}
IsValue None = ⊥

record Drew (w : ℕ) (x : Float) : Type 0 where
  told : is_drawn w ≡ true
  value : x ≡ double (decimal_of w)

drew : (w : ℕ) (x : Float) → drawn_of w ≡ Some x → Drew w x
unfolding drawn_of
drew w x e =
    by_cases (Drew w x) (is_drawn w)
    (λ (t : is_drawn w ≡ true). record { told = t; value = ap value_in (sym e ∙ if_true _ _ t) })
    (λ (t : is_drawn w ≡ false). absurd (subst IsValue (sym e ∙ if_false _ _ t) tt))

-- a drawn word is the word of zero, or of another number
which : (w : ℕ) → is_drawn w ≡ true → (w ≡ zero_word) ⊎ Written w
unfolding is_drawn
which w e = word_says w (both_first _ _ e)

written_some : (w : ℕ) → Written w → 0 < (decimal_of w).size
written_some w k = rw (decoded w k) k.some

-- ---- the exact number, rounded once

abbrev Rounded : ℕ → Type 0
Rounded w = double (decimal_of w) ≡ round binary64 (decimal_of w).negative (numerator w) (denominator w)

zero_rounded : Rounded zero_word
unfolding decimal_of double scaled signed as_double provided◌then◌else◌ of_int mul round
zero_rounded = refl

written_rounded : (w : ℕ) → is_drawn w ≡ true → Written w → Rounded w
unfolding double
written_rounded w e k =
    let s = spanned w e in
    ap (signed (decimal_of w).negative) (rounded (decimal_of w).size (decimal_of w).shifted (written_some w k) s.few s.low s.high)
    ∙ signed_round (decimal_of w).negative (numerator w) (denominator w)

rounded_is : (w : ℕ) → is_drawn w ≡ true → Rounded w
rounded_is w e = ⊎_elim (λ (z : w ≡ zero_word). subst Rounded (sym z) zero_rounded) (written_rounded w e) (which w e)

pub rounded_once : (w : ℕ) (x : Float) → drawn_of w ≡ Some x → x ≡ round binary64 (decimal_of w).negative (numerator w) (denominator w)
rounded_once w x e = let d = drew w x e in d.value ∙ rounded_is w d.told

-- ---- zero, and the sign of any other number

-- "zero is plus zero"
pub zero_plus : drawn_of zero_word ≡ Some (fin false 0 (pos 0))
unfolding drawn_of is_drawn is_value_word decimal_of within double scaled signed as_double both either provided◌then◌else◌ of_int mul
zero_plus = refl

-- a finite number other than zero, with this sign
pub record IsNumber (x : Float) (negative : Bool) : Type 0 where
  pub size : ℕ
  pub over : ℕ
  pub above : 0 < size
  pub divides : 0 < over
  pub value : HasValue x negative size over

written_kept : (w : ℕ) (x : Float) → Drew w x → Written w → IsNumber x (decimal_of w).negative
unfolding double
written_kept w x d k =
    let s = spanned w d.told in
    let y = scaled (decimal_of w).size (decimal_of w).shifted in
    let p = scaled_above (decimal_of w).size (decimal_of w).shifted (written_some w k) s.few s.low s.high in
    let v = signed_value (decimal_of w).negative y (num y) (den y) (own_value y p) in
    record {
      size = num y;
      over = den y;
      above = value_pos y (num y) (den y) p (den_pos y) (own_value y p);
      divides = den_pos y;
      value = subst (λ (z : Float). HasValue z (decimal_of w).negative (num y) (den y)) (sym d.value) v;
    }

-- "A sign survives"
pub sign_kept : (w : ℕ) (x : Float) → drawn_of w ≡ Some x → (w ≡ zero_word → ⊥) → IsNumber x (decimal_of w).negative
sign_kept w x e n =
    let d = drew w x e in
    ⊎_elim (λ (z : w ≡ zero_word). absurd (n z)) (written_kept w x d) (which w d.told)

-- ---- never a NaN, nor an infinity

finite_of_value : (x : Float) (s : Bool) (a c : ℕ) → HasValue x s a c → T (finite x)
finite_of_value nan s a c h = absurd h
finite_of_value (inf t) s a c h = absurd h
finite_of_value (fin t m e) s a c h = tt

pub drawn_finite : (w : ℕ) (x : Float) → drawn_of w ≡ Some x → T (finite x)
drawn_finite w x e =
    let d = drew w x e in
    ⊎_elim
    (λ (z : w ≡ zero_word). subst (λ (y : Float). T (finite y)) (ap value_in (sym zero_plus ∙ ap drawn_of (sym z) ∙ e)) tt)
    (λ (k : Written w). let n = written_kept w x d k in finite_of_value x (decimal_of w).negative n.size n.over n.value)
    (which w d.told)

finite_number : (x : Float) → T (finite x) → T (not (is_nan x))
unfolding is_nan
finite_number nan h = absurd h
finite_number (inf s) h = absurd h
finite_number (fin s m e) h = tt

pub never_nan : (w : ℕ) (x : Float) → drawn_of w ≡ Some x → T (not (is_nan x))
never_nan w x e = finite_number x (drawn_finite w x e)

-- ---- the bits determine the double

-- the bits read back as the same double, so no two doubles have the same bits
pub bits_back : (w : ℕ) (x : Float) → drawn_of w ≡ Some x → of_bits binary64 (to_bits binary64 x) ≡ x
unfolding double
bits_back w x e =
    let y = scaled (decimal_of w).size (decimal_of w).shifted in
    let fit = signed_fits (decimal_of w).negative y (scaled_fits (decimal_of w).size (decimal_of w).shifted) in
    of_bits-to_bits binary64 x (subst (λ (z : Float). T (fits binary64 z)) (sym (drew w x e).value) fit)

-- ---- whole numbers

-- m times ten to the k, without its sign, is n, and n is below two to the 53
pub record IsWhole (w n : ℕ) : Type 0 where
  pub word : is_value_word w ≡ true
  pub below : n < 2 ^ 53
  pub value : numerator w ≡ n * denominator w

-- such a k is not below zero, since m does not end in 0
whole_low : (size shifted n : ℕ) → (size % 10 ≡ 0 → ⊥) → size * 10 ^ (shifted - 64) ≡ n * 10 ^ (64 - shifted) → 64 ≤ shifted
whole_low size shifted n trimmed e =
    by_cases (64 ≤ shifted) (ltb shifted 64)
    (λ (t : ltb shifted 64 ≡ true). absurd (trimmed (ends (ltb-true shifted 64 t))))
    (λ (t : ltb shifted 64 ≡ false). ltb-false shifted 64 t)
  where
    ends : shifted < 64 → size % 10 ≡ 0
    ends h =
        let z : shifted - 64 ≡ 0 = omega arith in
        let j : 64 - shifted ≡ suc (63 - shifted) = omega arith in
        let f : size ≡ n * 10 ^ (63 - shifted) * 10 =
        sym (mul-one size)
        ∙ ap (λ (k : ℕ). size * 10 ^ k) (sym z)
        ∙ e
        ∙ ap (λ (k : ℕ). n * 10 ^ k) j
        ∙ ap (λ (k : ℕ). n * k) (pow-suc 10 (63 - shifted))
        ∙ sym (mul_assoc n (10 ^ (63 - shifted)) 10) in
        ap (λ (k : ℕ). k % 10) f ∙ mul-mod_left (n * 10 ^ (63 - shifted)) 10

-- nor above 15, since ten to the 16 is not below two to the 53
whole_high : (size shifted n : ℕ) → 0 < size → 64 ≤ shifted → n < 2 ^ 53 → size * 10 ^ (shifted - 64) ≡ n * 10 ^ (64 - shifted) → shifted ≤ 64 + span
whole_high size shifted n above low below e =
    by_cases (shifted ≤ 64 + span) (ltb shifted 80)
    (λ (t : ltb shifted 80 ≡ true). let h : shifted < 80 = ltb-true shifted 80 t in omega arith)
    (λ (t : ltb shifted 80 ≡ false). absurd (passes (ltb-false shifted 80 t)))
  where
    passes : 80 ≤ shifted → ⊥
    passes h =
        let z : 64 - shifted ≡ 0 = omega arith in
        let f : size * 10 ^ (shifted - 64) ≡ n = e ∙ ap (λ (k : ℕ). n * 10 ^ k) z ∙ mul-one n in
        let g : 10 ^ 16 ≤ 10 ^ (shifted - 64) = pow-le-pow_right {n = 10} (zero-lt-suc 9) {i = 16} {j = shifted - 64} (omega arith) in
        let k : 1 * 10 ^ 16 ≤ n = le_trans (mul-le-mul above g) (le_of_eq f) in
        omega arith

zero_span : is_drawn zero_word ≡ true
unfolding is_drawn is_value_word decimal_of within both either
zero_span = refl

whole_span : (w n : ℕ) → IsWhole w n → is_drawn w ≡ true
whole_span w n h =
    ⊎_elim
    (λ (z : w ≡ zero_word). ap is_drawn z ∙ zero_span)
    (λ (k : Written w).
    let trimmed : (decimal_of w).size % 10 ≡ 0 → ⊥ = rw (decoded w k) k.trimmed in
    let low = whole_low (decimal_of w).size (decimal_of w).shifted n trimmed h.value in
    let high = whole_high (decimal_of w).size (decimal_of w).shifted n (written_some w k) low h.below h.value in
    in_span w h.word (omega arith) high)
    (word_says w h.word)

-- "whenever m times ten to the k is itself a whole number below two to the 53, the double is that number exactly": it
-- is drawn, and it is n with the word's sign
pub whole_drawn :
    (w n : ℕ) →
    IsWhole w n →
    (drawn_of w ≡ Some (round binary64 (decimal_of w).negative n 1)) × HasValue (round binary64 (decimal_of w).negative n 1) (decimal_of w).negative n 1
whole_drawn w n h =
    let same = round_same binary64 (decimal_of w).negative (numerator w) (denominator w) n 1 (ten_above (64 - (decimal_of w).shifted)) (zero-lt-suc 0) (mul-one (numerator w) ∙ h.value) in
    let told = whole_span w n h in
    (drawn_is w told ∙ ap Some (rounded_is w told ∙ same), round_whole binary64 (decimal_of w).negative n (le_of_lt h.below))
