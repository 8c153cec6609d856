-- Laws of the number that a run of digits writes: the loop that reads it, capped at the cap of exponents, and integers,
-- which stay below that cap.
-- Assumes nothing.
use mathlib.Core.Path.{◌≡◌, sym, ◌∙◌, ap}
use mathlib.Core.Bool.{Bool, true, false, not}
use mathlib.Core.List.{List, [], ◌∷◌}
use Prim.Native.Nat.{ℕ, suc, ◌+◌, ◌-◌, ◌*◌, ◌≤◌, ◌<◌, min}
use native.Mathlib.Numerals.{add-one}
use native.Mathlib.Omega.{arith}
use lib.ListN.{length, take, drop, get_or, drop_of_length-le}
use lib.Seq.{drop-cons}
use borrow.Author.Tests.{not-true, not-false}
use Rattle.base.specs.Bytes.{is_digit}
use Rattle.base.specs.Runs.{run}
use Rattle.base.proofs.RunLaws.{run_goes, run_stops, run_nil}
use Rattle.lex_number.specs.declared.Exponent.{Exponent}
use Rattle.lex_number.specs.Integer.{value_of}
use Rattle.lex_number.specs.Way.Capped.{exponent_cap}
use Rattle.lex_number.proofs.CappedLaws.{cut_step, cut_twice}
use Rattle.lex_number.proofs.DigitLaws.{digit_from, digit_to}

-- the number that the digits at the front of s write, after earlier digits that write a
unfoldable pub size_on : List ℕ → ℕ → ℕ
size_on s a = value_of a (take (run is_digit s) s)

pub size_goes : (b : ℕ) (s : List ℕ) (a : ℕ) → is_digit b ≡ true → size_on (b ∷ s) a ≡ size_on s (10 * a + (b - 48))
unfolding size_on value_of
size_goes b s a e = rw (run_goes is_digit b s e)

pub size_stops : (b : ℕ) (s : List ℕ) (a : ℕ) → is_digit b ≡ false → size_on (b ∷ s) a ≡ a
unfolding size_on value_of
size_stops b s a e = rw (run_stops is_digit b s e)

pub size_ends : (a : ℕ) → size_on [] a ≡ a
unfolding size_on value_of
size_ends a = rw (run_nil is_digit)

-- capping the number read so far does not change the capped result
value_cut : (cap : ℕ) (s : List ℕ) (a b : ℕ) → min a cap ≡ min b cap → min (value_of a s) cap ≡ min (value_of b s) cap
unfolding value_of
value_cut cap [] a b e = e
value_cut cap (v ∷ s) a b e = value_cut cap s (10 * a + (v - 48)) (10 * b + (v - 48)) (sym (cut_step cap a (v - 48)) ∙ ap (λ (n : ℕ). min (10 * n + (v - 48)) cap) e ∙ cut_step cap b (v - 48))

pub exponents_same : (r e : Exponent) → r.size ≡ e.size → r.negative ≡ e.negative → r.end ≡ e.end → r ≡ e
exponents_same r e a b c = λ i. record { size = a i; negative = b i; end = c i }

-- the value of a byte that a call has found to be a digit
module _ (t : Bool) (b w : ℕ) (told : t ≡ is_digit b) (on : not t ≡ false) (same : w ≡ b) where
  pub told_from : 48 ≤ w
  told_from = rw same (digit_from b (sym told ∙ not-false t on))

  pub told_to : w - 48 ≤ 9
  told_to =
      let h : b ≤ 57 = digit_to b (sym told ∙ not-false t on) in
      omega arith

-- the invariant of the loop over bytes: reading on from position i with the number so far gives the whole
module _ (s : List ℕ) (i size whole : ℕ) (inv : min (size_on (drop i s) size) exponent_cap ≡ whole) where
  pub size_past : size ≤ exponent_cap → length s ≤ i → size ≡ whole
  size_past k h =
      let e : size_on (drop i s) size ≡ size = rw (drop_of_length-le s h) (size_ends size) in
      omega arith

  pub size_stop : (t : Bool) → size ≤ exponent_cap → i < length s → t ≡ is_digit (get_or s i 0) → not t ≡ true → size ≡ whole
  size_stop t k h told stop =
      let e : size_on (drop i s) size ≡ size = rw (drop-cons s i 0 h) (size_stops (get_or s i 0) (drop (suc i) s) size (sym told ∙ not-true t stop)) in
      omega arith

  pub size_on_lem : (t : Bool) (w next : ℕ) → i < length s → t ≡ is_digit (get_or s i 0) → not t ≡ false → w ≡ get_or s i 0 → next ≡ min (10 * size + (w - 48)) exponent_cap → min (size_on (drop (i + 1) s) next) exponent_cap ≡ whole
  unfolding size_on
  size_on_lem t w next h told on same e =
      let d : is_digit (get_or s i 0) ≡ true = sym told ∙ not-false t on in
      let f : size_on (drop i s) size ≡ size_on (drop (suc i) s) (10 * size + (get_or s i 0 - 48)) = rw (drop-cons s i 0 h) (size_goes (get_or s i 0) (drop (suc i) s) size d) in
      let g : min next exponent_cap ≡ min (10 * size + (get_or s i 0 - 48)) exponent_cap = rw (e, same) (cut_twice exponent_cap (10 * size + (get_or s i 0 - 48))) in
      rw (add-one i) (value_cut exponent_cap (take (run is_digit (drop (suc i) s)) (drop (suc i) s)) next (10 * size + (get_or s i 0 - 48)) g ∙ ap (λ (n : ℕ). min n exponent_cap) (sym f) ∙ inv)

pub next_cut : (n next : ℕ) → next ≡ min n exponent_cap → next ≤ exponent_cap
next_cut n next e = omega arith
