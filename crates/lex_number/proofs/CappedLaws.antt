-- Laws of the caps over digits: capping the numbers while reading gives the same as capping them at the end.
-- The law of one digit holds for any cap, so that it also serves the digits of an exponent.
-- Assumes nothing.
use mathlib.Core.Path.{◌≡◌, refl, sym, ◌∙◌, ap}
use mathlib.Core.Bool.{Bool, true, false}
use mathlib.Core.List.{List, [], ◌∷◌}
use Prim.Native.Nat.{ℕ, ◌+◌, ◌-◌, ◌*◌, min}
use native.Mathlib.Omega.{arith}
use lib.Dec.{eqb}
use Rattle.base.specs.If.{provided◌then◌else◌}
use Rattle.base.proofs.IfLaws.{if_true, if_false, by_cases}
use Rattle.lex_number.specs.declared.Digits.{Digits}
use Rattle.lex_number.specs.Number.{is_point, digits_go_on, with_point, with_digit, with_byte, scan}
use Rattle.lex_number.specs.Way.Capped.{size_cap, capped_digits, CutDigits}

-- one more digit: capping before the step gives the same as capping after it
pub cut_step : (cap a v : ℕ) → min (10 * min a cap + v) cap ≡ min (10 * a + v) cap
cut_step cap a v = omega arith

pub cut_twice : (cap a : ℕ) → min (min a cap) cap ≡ min a cap
cut_twice cap a = omega arith

cut_either : (t : Bool) (cap a b c d : ℕ) → min a cap ≡ min c cap → min b cap ≡ min d cap → min (provided t then a else b) cap ≡ min (provided t then c else d) cap
unfolding provided◌then◌else◌
cut_either true cap a b c d e f = e
cut_either false cap a b c d e f = f

digits_twice : (d : Digits) → capped_digits (capped_digits d) ≡ capped_digits d
unfolding capped_digits
digits_twice d = rw (cut_twice size_cap d.all, cut_twice size_cap d.size)

point_cut : (d : Digits) → capped_digits (with_point (capped_digits d)) ≡ capped_digits (with_point d)
unfolding capped_digits with_point
point_cut d = rw (cut_twice size_cap d.all, cut_twice size_cap d.size)

digit_cut : (d : Digits) (v : ℕ) → capped_digits (with_digit (capped_digits d) v) ≡ capped_digits (with_digit d v)
unfolding capped_digits with_digit
digit_cut d v =
    rw (
      cut_step size_cap d.all v,
      cut_either (eqb v 0) size_cap (min d.size size_cap) (10 * min d.all size_cap + v) d.size (10 * d.all + v) (cut_twice size_cap d.size) (cut_step size_cap d.all v),
    )

pub byte_cut : (d : Digits) (b : ℕ) → capped_digits (with_byte (capped_digits d) b) ≡ capped_digits (with_byte d b)
unfolding with_byte
byte_cut d b =
    by_cases _ (is_point b)
    (λ e. rw (if_true (with_point (capped_digits d)) (with_digit (capped_digits d) (b - 48)) e, if_true (with_point d) (with_digit d (b - 48)) e) (point_cut d))
    (λ e. rw (if_false (with_point (capped_digits d)) (with_digit (capped_digits d) (b - 48)) e, if_false (with_point d) (with_digit d (b - 48)) e) (digit_cut d (b - 48)))

goes_cut : (d : Digits) (b : ℕ) → digits_go_on (capped_digits d) b ≡ digits_go_on d b
unfolding digits_go_on capped_digits
goes_cut d b = refl

pub scan_goes : (b : ℕ) (s : List ℕ) (d : Digits) → digits_go_on d b ≡ true → scan (b ∷ s) d ≡ scan s (with_byte d b)
unfolding scan
scan_goes b s d e = if_true _ _ e

pub scan_stops : (b : ℕ) (s : List ℕ) (d : Digits) → digits_go_on d b ≡ false → scan (b ∷ s) d ≡ d
unfolding scan
scan_stops b s d e = if_false _ _ e

pub scan_ends : (d : Digits) → scan [] d ≡ d
unfolding scan
scan_ends d = refl

-- capping the digits read so far does not change the capped result
pub scan_cut : (s : List ℕ) (d : Digits) → capped_digits (scan s (capped_digits d)) ≡ capped_digits (scan s d)
scan_cut [] d = rw (scan_ends (capped_digits d), scan_ends d) (digits_twice d)
scan_cut (b ∷ s) d =
    by_cases _ (digits_go_on d b)
    (λ e.
    rw (scan_goes b s (capped_digits d) (goes_cut d b ∙ e), scan_goes b s d e)
    (sym (scan_cut s (with_byte (capped_digits d) b)) ∙ ap (λ (x : Digits). capped_digits (scan s x)) (byte_cut d b) ∙ scan_cut s (with_byte d b)))
    (λ e. rw (scan_stops b s (capped_digits d) (goes_cut d b ∙ e), scan_stops b s d e) (digits_twice d))

pub kept_cut : (d : Digits) → CutDigits d → capped_digits d ≡ d
unfolding capped_digits
kept_cut d k =
    let e : min d.all size_cap ≡ d.all = omega arith in
    let f : min d.size size_cap ≡ d.size = omega arith in
    rw (e, f)
