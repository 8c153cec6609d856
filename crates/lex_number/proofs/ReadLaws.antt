-- Laws of reading a number: where its digits and its exponent end, the bounds of what the reader passes on, and that
-- the caps change nothing.
-- Assumes nothing.
use mathlib.Core.Path.{◌≡◌, refl, sym, ◌∙◌, ap}
use mathlib.Core.Bool.{Bool, true, false, not, true≢false}
use mathlib.Core.List.{List, [], ◌∷◌}
use mathlib.Core.Logic.{◌⊎◌, inl, inr, ⊎_elim}
use Prim.Native.Nat.{ℕ, ◌+◌, ◌-◌, ◌*◌, ◌^◌, ◌≤◌, ◌<◌, min}
use native.Mathlib.Omega.{arith}
use lib.ListN.{length, drop, get_or, length-drop, get_or-eq_default}
use lib.Dec.{eqb, leb}
use borrow.Author.Tests.{leb-true, leb-false, not-true, not-false}
use Rattle.base.specs.If.{either}
use Rattle.base.specs.Bytes.{is_digit}
use Rattle.base.specs.Runs.{run}
use Rattle.base.proofs.IfLaws.{if_true, if_false, by_cases, by_test}
use Rattle.base.proofs.RunLaws.{run_le}
use Rattle.lex_number.specs.declared.Digits.{Digits}
use Rattle.lex_number.specs.declared.Exponent.{Exponent}
use Rattle.lex_number.specs.declared.Scale.{Scale}
use Rattle.lex_number.specs.Number.{Number, is_sign, is_e, is_minus, past_sign, no_digits, digits_go_on, with_byte, scan, digits_of, no_exponent, exponent_at, exponent_of, exponent_from, scale_of, raised, lowered, value_as, well_formed, number_from, number_of}
use Rattle.std.proofs.Common.{Err}
use Rattle.lex_number.specs.declared.NumberError.TheVariants.{Malformed}
use Rattle.lex_number.specs.Way.Capped.{size_cap, exponent_cap, count_cap, capped_digits, capped_exponent, raising, lowering, CutDigits, BoundedNumber}
use Rattle.lex_number.proofs.CappedLaws.{scan_goes, scan_stops, scan_ends, byte_cut, kept_cut}
use Rattle.lex_number.proofs.DigitLaws.{kept_none, cut_next, ends_next}
use Rattle.lex_number.proofs.ScaleLaws.{scale_up, scale_down}
use Rattle.lex_number.proofs.ValueLaws.{Agree, value_agree}

-- digits end within the bytes
end_same : (d : Digits) → (capped_digits d).end ≡ d.end
unfolding capped_digits
end_same d = refl

pub scan_end : (s : List ℕ) (d : Digits) → (scan s d).end ≤ d.end + length s
scan_end [] d = rw (scan_ends d) (omega arith)
scan_end (b ∷ s) d =
    by_cases _ (digits_go_on d b)
    (λ (e : digits_go_on d b ≡ true).
    let h : (scan s (with_byte d b)).end ≤ (with_byte d b).end + length s = scan_end s (with_byte d b) in
    let k : (with_byte d b).end ≡ d.end + 1 = sym (end_same (with_byte d b)) ∙ ends_next d b in
    rw (scan_goes b s d e) (omega arith))
    (λ (e : digits_go_on d b ≡ false). rw (scan_stops b s d e) (omega arith))

-- the counts are at most the position where the digits end
scan_kept : (s : List ℕ) (d : Digits) → CutDigits (capped_digits d) → CutDigits (capped_digits (scan s d))
scan_kept [] d k = rw (scan_ends d) k
scan_kept (b ∷ s) d k =
    by_cases _ (digits_go_on d b)
    (λ (e : digits_go_on d b ≡ true). rw (scan_goes b s d e) (scan_kept s (with_byte d b) (cut_next (capped_digits d) (capped_digits (with_byte d b)) b k (sym (byte_cut d b)))))
    (λ (e : digits_go_on d b ≡ false). rw (scan_stops b s d e) k)

kept_cut_none : (from : ℕ) → CutDigits (capped_digits (no_digits from))
kept_cut_none from = rw (kept_cut (no_digits from) (kept_none from)) (kept_none from)

-- a position whose byte passes a test that 0 does not pass is within the word
pub inside : (p : ℕ → Bool) (s : List ℕ) (at : ℕ) → p 0 ≡ false → p (get_or s at 0) ≡ true → at < length s
inside p s at none some =
    by_cases _ (leb (length s) at)
    (λ (t : leb (length s) at ≡ true). absurd (true≢false (sym some ∙ ap p (get_or-eq_default s 0 (leb-true (length s) at t)) ∙ none)))
    (λ (t : leb (length s) at ≡ false). omega (arith, leb-false (length s) at t))

pub sign_within : (s : List ℕ) (from : ℕ) → from ≤ length s → past_sign s from ≤ length s
unfolding past_sign is_sign either
sign_within s from h =
    by_test (λ (n : ℕ). n ≤ length s) (is_sign (get_or s from 0)) _ _
    (λ e. let k : from < length s = inside is_sign s from refl e in omega arith)
    (λ e. h)

-- an exponent ends within the word
digits_within : (s : List ℕ) (from : ℕ) → from ≤ length s → from + run is_digit (drop from s) ≤ length s
digits_within s from h =
    let k : run is_digit (drop from s) ≤ length (drop from s) = run_le is_digit (drop from s) in
    let n : length (drop from s) ≡ length s - from = length-drop from s in
    omega arith

pub exponent_within : (s : List ℕ) (from : ℕ) → from ≤ length s → (exponent_of s from).end ≤ length s
unfolding exponent_of exponent_at no_exponent is_e either
exponent_within s from h =
    by_test (λ (x : Exponent). x.end ≤ length s) (is_e (get_or s from 0)) _ _
    (λ e.
    let k : from < length s = inside is_e s from refl e in
    by_test (λ (x : Exponent). x.end ≤ length s) (eqb (run is_digit (drop (past_sign s (from + 1)) s)) 0) _ _
    (λ f. h)
    (λ f. digits_within s (past_sign s (from + 1)) (sign_within s (from + 1) (omega arith))))
    (λ e. h)

-- the caps change nothing if no count is greater than the length of a slice
module _ (negative : Bool) (d : Digits) (x : Exponent) (c : Scale) (zeros : d.zeros < count_cap) (fraction : d.fraction < count_cap) (up : c.up ≤ 15) (down : c.down ≤ 15) where
  exponents : ((raising (capped_exponent x) ≡ 0) × (raising x ≡ 0) × (lowering x ≡ x.size) × (lowering (capped_exponent x) ≡ min x.size exponent_cap)) ⊎ ((raising (capped_exponent x) ≡ min x.size exponent_cap) × (raising x ≡ x.size) × (lowering x ≡ 0) × (lowering (capped_exponent x) ≡ 0))
  unfolding raising lowering capped_exponent
  exponents = by_cases _ x.negative (λ e. inl (if_true _ _ e, if_true _ _ e, if_true _ _ e, if_true _ _ e)) (λ e. inr (if_false _ _ e, if_false _ _ e, if_false _ _ e, if_false _ _ e))

  cut_agree : Agree (min d.size size_cap) (d.zeros + raising (capped_exponent x) + c.up) (d.fraction + lowering (capped_exponent x) + c.down) d.size (d.zeros + raising x + c.up) (d.fraction + lowering x + c.down)
  cut_agree =
      ⊎_elim
      (λ w. record { zero_to = λ e. omega arith; zero_from_lem = λ e. omega arith; stands_to = λ k. (omega arith, omega arith, omega arith); stands_from = λ k. (omega arith, omega arith, omega arith) })
      (λ w. record { zero_to = λ e. omega arith; zero_from_lem = λ e. omega arith; stands_to = λ k. (omega arith, omega arith, omega arith); stands_from = λ k. (omega arith, omega arith, omega arith) })
      exponents

  pub value_cut : value_as negative (capped_digits d).size (raised (capped_digits d) (capped_exponent x) c) (lowered (capped_digits d) (capped_exponent x) c) ≡ value_as negative d.size (raised d x c) (lowered d x c)
  unfolding capped_digits raised lowered raising lowering
  value_cut = value_agree negative _ _ _ _ _ _ cut_agree

-- what the reader knows after the digits and the exponent are read
module _ (s : List ℕ) (start : ℕ) (d : Digits) (x : Exponent) (sign : start ≡ past_sign s 0) (digits : d ≡ capped_digits (scan (drop start s) (no_digits start))) (read : x ≡ capped_exponent (exponent_of s d.end)) where
  digits_are : d ≡ capped_digits (digits_of s)
  unfolding digits_of
  digits_are = digits ∙ ap (λ (n : ℕ). capped_digits (scan (drop n s) (no_digits n))) sign

  exponent_is : x ≡ capped_exponent (exponent_from s (digits_of s))
  unfolding exponent_from
  exponent_is = read ∙ ap (λ (n : ℕ). capped_exponent (exponent_of s n)) (ap (λ (e : Digits). e.end) digits_are ∙ end_same (digits_of s))

  digits_end : d.end ≤ length s
  unfolding no_digits
  digits_end =
      let h : start ≤ length s = rw sign (sign_within s 0 (omega arith)) in
      let k : (scan (drop start s) (no_digits start)).end ≤ start + length (drop start s) = scan_end (drop start s) (no_digits start) in
      let n : length (drop start s) ≡ length s - start = length-drop start s in
      let e : d.end ≡ (scan (drop start s) (no_digits start)).end = ap (λ (e : Digits). e.end) digits ∙ end_same _ in
      omega arith

  digits_kept : CutDigits d
  digits_kept = rw digits (scan_kept (drop start s) (no_digits start) (kept_cut_none start))

  pub number_within : x.end ≤ length s
  unfolding capped_exponent
  number_within = rw read (exponent_within s d.end digits_end)

  size_within : x.size ≤ exponent_cap
  unfolding capped_exponent
  size_within = rw read (omega arith)

  pub number_bounded : (c : Scale) (b : ℕ) → length s * 1 < 2 ^ 63 → c ≡ scale_of b → BoundedNumber d x c
  number_bounded c b fits e =
      let k : CutDigits d = digits_kept in
      let h : d.end ≤ length s = digits_end in
      record { size_cut = k.size_cut; zeros_below = omega arith; fraction_below = omega arith; exponent_cut = size_within; up_small = scale_up c b e; down_small = scale_down c b e }

  formed_same : well_formed s d x ≡ well_formed s (digits_of s) (exponent_from s (digits_of s))
  unfolding well_formed capped_digits capped_exponent
  formed_same = rw (digits_are, exponent_is)

  pub number_malformed : (t : Bool) → t ≡ well_formed s d x → not t ≡ true → Err Malformed ≡ number_of s
  unfolding number_of number_from
  number_malformed t told stop = sym (if_false _ _ (sym formed_same ∙ sym told ∙ not-true t stop))

  exact_value : (negative : Bool) (c : Scale) → BoundedNumber d x c → value_as negative d.size (raised d x c) (lowered d x c) ≡ value_as negative (digits_of s).size (raised (digits_of s) (exponent_from s (digits_of s)) c) (lowered (digits_of s) (exponent_from s (digits_of s)) c)
  unfolding capped_digits
  exact_value negative c b =
      let z : d.zeros ≡ (digits_of s).zeros = ap (λ (e : Digits). e.zeros) digits_are in
      let f : d.fraction ≡ (digits_of s).fraction = ap (λ (e : Digits). e.fraction) digits_are in
      rw (digits_are, exponent_is) (value_cut negative (digits_of s) (exponent_from s (digits_of s)) c (omega arith) (omega arith) b.up_small b.down_small)

  scale_same : scale_of (get_or s x.end 0) ≡ scale_of (get_or s (exponent_from s (digits_of s)).end 0)
  unfolding capped_exponent
  scale_same = ap (λ (y : Exponent). scale_of (get_or s y.end 0)) exponent_is

  pub number_value : (t negative : Bool) (c : Scale) (r : Number) → length s * 1 < 2 ^ 63 → t ≡ well_formed s d x → not t ≡ false → negative ≡ is_minus (get_or s 0 0) → c ≡ scale_of (get_or s x.end 0) → r ≡ value_as negative d.size (raised d x c) (lowered d x c) → r ≡ number_of s
  unfolding number_of number_from
  number_value t negative c r fits told on minus scale e =
      let v : r ≡ value_as negative (digits_of s).size (raised (digits_of s) (exponent_from s (digits_of s)) c) (lowered (digits_of s) (exponent_from s (digits_of s)) c) = e ∙ exact_value negative c (number_bounded c (get_or s x.end 0) fits scale) in
      (rw (minus, scale ∙ scale_same) at v) ∙ sym (if_true _ _ (sym formed_same ∙ sym told ∙ not-false t on))
