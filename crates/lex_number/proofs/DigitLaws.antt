-- Laws of reading digits, as the code uses them: whether the digits go on, one more byte, and the loop over bytes.
-- Assumes nothing.
use mathlib.Core.Path.{◌≡◌, refl, sym, ◌∙◌, ap}
use mathlib.Core.Bool.{Bool, true, false, not}
use mathlib.Core.List.{List}
use Prim.Native.Nat.{ℕ, suc, ◌+◌, ◌-◌, ◌≤◌, ◌<◌, min}
use native.Mathlib.Nat.{add-zero}
use native.Mathlib.Numerals.{add-one}
use native.Mathlib.Omega.{arith}
use lib.ListN.{length, take, drop, get_or, length-drop, drop_of_length-le}
use lib.Seq.{drop-cons, take_all}
use lib.Dec.{eqb}
use borrow.Author.Tests.{eq-eqb, ne_eqb, leb-true, not-true, not-false}
use Rattle.base.specs.If.{provided◌then◌else◌}
use Rattle.base.specs.Bytes.{is_digit, within}
use Rattle.base.proofs.IfLaws.{if_true, if_false, by_test, either_left, either_rest, both_rest, both_not_left, both_first, both_second, either_false, either_comes}
use Rattle.lex_number.specs.declared.Digits.{Digits}
use Rattle.lex_number.specs.Number.{is_point, no_digits, digits_go_on, with_point, with_digit, with_byte, scan}
use Rattle.lex_number.specs.Way.Capped.{size_cap, capped_digits, CutDigits}
use Rattle.lex_number.proofs.CappedLaws.{scan_goes, scan_stops, scan_ends, scan_cut, kept_cut}

module _ (d : Digits) (b : ℕ) (t : Bool) (told : t ≡ is_digit b) where
  pub goes_digit : t ≡ true → t ≡ digits_go_on d b
  unfolding digits_go_on
  goes_digit e = e ∙ sym (either_left _ _ (sym told ∙ e))

  pub goes_not : t ≡ false → (b ≡ 46 → ⊥) → eqb b 46 ≡ digits_go_on d b
  unfolding digits_go_on is_point
  goes_not e n = ne_eqb b 46 n ∙ sym (either_false _ _ (sym told ∙ e) (both_not_left _ _ (ne_eqb b 46 n)))

  pub goes_point : t ≡ false → b ≡ 46 → not d.point ≡ digits_go_on d b
  unfolding digits_go_on is_point
  goes_point e p = sym (either_rest _ _ (sym told ∙ e) ∙ both_rest _ _ (eq-eqb b 46 p))

-- digits that are capped stay so after a point
pub point_kept : (d : Digits) → CutDigits d → with_point d ≡ capped_digits (with_point d)
unfolding capped_digits with_point
point_kept d k =
    let e : min d.all size_cap ≡ d.all = omega arith in
    let f : min d.size size_cap ≡ d.size = omega arith in
    rw (e, f)

-- digits are the same if each of their fields is
pub digits_same : (r e : Digits) → r.all ≡ e.all → r.size ≡ e.size → r.zeros ≡ e.zeros → r.fraction ≡ e.fraction → r.some ≡ e.some → r.point ≡ e.point → r.end ≡ e.end → r ≡ e
digits_same r e a b c d f g h = λ i. record { all = a i; size = b i; zeros = c i; fraction = d i; some = f i; point = g i; end = h i }

-- after a digit 0 the size stays as it is, after any other it is the whole number
pub size_stays : (v size other : ℕ) → v ≡ 0 → size ≤ size_cap → size ≡ min (provided eqb v 0 then size else other) size_cap
size_stays v size other e h = rw (if_true size other (eq-eqb v 0 e)) (omega arith)

pub size_grows : (v all size other : ℕ) → (v ≡ 0 → ⊥) → all ≡ min other size_cap → all ≡ min (provided eqb v 0 then size else other) size_cap
size_grows v all size other n e = rw (if_false size other (ne_eqb v 0 n)) e

pub digit_from : (b : ℕ) → is_digit b ≡ true → 48 ≤ b
unfolding is_digit within
digit_from b e = leb-true 48 b (both_first _ _ e)

pub digit_to : (b : ℕ) → is_digit b ≡ true → b ≤ 57
unfolding is_digit within
digit_to b e = leb-true b 57 (both_second _ _ e)

-- digits go on with a byte that is not the point: its value as a digit, and the digits with it
module _ (d : Digits) (b w : ℕ) (goes : digits_go_on d b ≡ true) (other : b ≡ 46 → ⊥) (told : w ≡ b) where
  goes_as_digit : is_digit b ≡ true
  unfolding digits_go_on is_point
  goes_as_digit = sym (either_comes _ _ (both_not_left _ _ (ne_eqb b 46 other))) ∙ goes

  pub value_from : 48 ≤ w
  value_from = rw told (digit_from b goes_as_digit)

  pub value_to : w - 48 ≤ 9
  value_to =
      let h : b ≤ 57 = digit_to b goes_as_digit in
      omega arith

  pub byte_digit : (r : Digits) → r ≡ capped_digits (with_digit d (w - 48)) → r ≡ capped_digits (with_byte d b)
  unfolding with_byte is_point
  byte_digit r e = rw (if_false (with_point d) (with_digit d (b - 48)) (ne_eqb b 46 other)) (rw told at e)

pub byte_point : (r d : Digits) (b : ℕ) → b ≡ 46 → r ≡ capped_digits (with_point d) → r ≡ capped_digits (with_byte d b)
unfolding with_byte is_point
byte_point r d b p e = rw (if_true (with_point d) (with_digit d (b - 48)) (eq-eqb b 46 p)) e

pub kept_none : (from : ℕ) → CutDigits (no_digits from)
unfolding no_digits
kept_none from = record { all_cut = omega arith; size_cut = omega arith; zeros_within = omega arith; fraction_within = omega arith }

-- the start of the loop
module _ (s : List ℕ) (from : ℕ) (d : Digits) (told : d ≡ no_digits from) where
  pub start_kept : CutDigits d
  start_kept = rw told (kept_none from)

  pub start_end : d.end ≡ from + 0
  unfolding no_digits
  start_end = rw (told, add-zero from)

  -- the loop reads the bytes of `&s[from..]`
  pub start_same : capped_digits (scan (take (length s - from) (drop from s)) d) ≡ capped_digits (scan (drop from s) (no_digits from))
  start_same =
      let e : take (length s - from) (drop from s) ≡ drop from s = take_all (length s - from) (drop from s) (omega (arith, length-drop from s)) in
      rw (e, told)

counts_point : (d : Digits) → CutDigits d → CutDigits (capped_digits (with_point d))
unfolding capped_digits with_point
counts_point d k = record { all_cut = omega arith; size_cut = omega arith; zeros_within = omega arith; fraction_within = omega arith }

counts_digit : (d : Digits) (v : ℕ) → CutDigits d → CutDigits (capped_digits (with_digit d v))
unfolding capped_digits with_digit
counts_digit d v k =
    record {
      all_cut = omega arith;
      size_cut = omega arith;
      zeros_within = by_test (λ (n : ℕ). n ≤ d.end + 1) (eqb v 0) _ _ (λ e. omega arith) (λ e. omega arith);
      fraction_within = by_test (λ (n : ℕ). n ≤ d.end + 1) d.point _ _ (λ e. omega arith) (λ e. omega arith);
    }

pub cut_next : (d next : Digits) (b : ℕ) → CutDigits d → next ≡ capped_digits (with_byte d b) → CutDigits next
unfolding with_byte
cut_next d next b k e = rw e (by_test (λ (x : Digits). CutDigits (capped_digits x)) (is_point b) _ _ (λ t. counts_point d k) (λ t. counts_digit d (b - 48) k))

pub ends_next : (d : Digits) (b : ℕ) → (capped_digits (with_byte d b)).end ≡ d.end + 1
unfolding capped_digits with_byte with_point with_digit
ends_next d b = by_test (λ (x : Digits). x.end ≡ d.end + 1) (is_point b) _ _ (λ t. refl) (λ t. refl)

pub end_next : (d next : Digits) (b from i : ℕ) → next ≡ capped_digits (with_byte d b) → d.end ≡ from + i → next.end ≡ from + (i + 1)
end_next d next b from i e h =
    let n : next.end ≡ d.end + 1 = ap (λ (x : Digits). x.end) e ∙ ends_next d b in
    omega arith

-- the invariant of the loop over bytes: reading on from position i with the digits d gives the whole
module _ (s : List ℕ) (i : ℕ) (d whole : Digits) (inv : capped_digits (scan (drop i s) d) ≡ whole) where
  pub digits_past : CutDigits d → length s ≤ i → d ≡ whole
  digits_past k h =
      let e : scan (drop i s) d ≡ d = rw (drop_of_length-le s h) (scan_ends d) in
      sym (kept_cut d k) ∙ ap capped_digits (sym e) ∙ inv

  pub digits_stop : (t : Bool) → CutDigits d → i < length s → t ≡ digits_go_on d (get_or s i 0) → not t ≡ true → d ≡ whole
  digits_stop t k h told stop =
      let e : scan (drop i s) d ≡ d = rw (drop-cons s i 0 h) (scan_stops (get_or s i 0) (drop (suc i) s) d (sym told ∙ not-true t stop)) in
      sym (kept_cut d k) ∙ ap capped_digits (sym e) ∙ inv

  pub digits_on : (t : Bool) (next : Digits) → i < length s → t ≡ digits_go_on d (get_or s i 0) → not t ≡ false → next ≡ capped_digits (with_byte d (get_or s i 0)) → capped_digits (scan (drop (i + 1) s) next) ≡ whole
  digits_on t next h told on e =
      let f : scan (drop i s) d ≡ scan (drop (suc i) s) (with_byte d (get_or s i 0)) = rw (drop-cons s i 0 h) (scan_goes (get_or s i 0) (drop (suc i) s) d (sym told ∙ not-false t on)) in
      rw (add-one i, e) (scan_cut (drop (suc i) s) (with_byte d (get_or s i 0)) ∙ ap capped_digits (sym f) ∙ inv)
