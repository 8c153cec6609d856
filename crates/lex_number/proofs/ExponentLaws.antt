-- Laws of the exponent, as `read_exponent` uses them at each return, and of where the exponent ends.
-- Assumes nothing.
use mathlib.Core.Path.{◌≡◌, refl, sym, ◌∙◌, ap}
use mathlib.Core.Bool.{Bool, true, false, not}
use mathlib.Core.List.{List}
use Prim.Native.Nat.{ℕ, ◌+◌, ◌≤◌}
use native.Mathlib.Omega.{arith}
use lib.ListN.{length, drop, get_or, get_or-eq_default}
use borrow.Author.Tests.{eq-eqb, ne_eqb, not-true, not-false}
use Rattle.base.specs.If.{either}
use Rattle.base.specs.Bytes.{is_digit}
use Rattle.base.specs.Runs.{run}
use Rattle.base.proofs.IfLaws.{if_true, if_false}
use Rattle.lex_number.specs.declared.Exponent.{Exponent}
use Rattle.lex_number.specs.Number.{is_e, is_minus, past_sign, no_exponent, exponent_at, exponent_of}
use Rattle.lex_number.specs.Way.Capped.{capped_exponent, size_at}

none_cut : (from : ℕ) → capped_exponent (no_exponent from) ≡ no_exponent from
unfolding capped_exponent no_exponent
none_cut from = refl

module _ (s : List ℕ) (from : ℕ) (r : Exponent) where
  none_told : is_e (get_or s from 0) ≡ false → r ≡ no_exponent from → r ≡ capped_exponent (exponent_of s from)
  unfolding exponent_of
  none_told t e = e ∙ sym (ap capped_exponent (if_false _ _ t) ∙ none_cut from)

  pub exponent_past : length s ≤ from → r ≡ no_exponent from → r ≡ capped_exponent (exponent_of s from)
  unfolding is_e either
  exponent_past h e = none_told (rw (get_or-eq_default s 0 h) refl) e

  pub exponent_none : (t : Bool) → t ≡ is_e (get_or s from 0) → not t ≡ true → r ≡ no_exponent from → r ≡ capped_exponent (exponent_of s from)
  exponent_none t told stop e = none_told (sym told ∙ not-true t stop) e

-- after an e: the digits after its sign
module _ (s : List ℕ) (from digits : ℕ) (t negative : Bool) (x : Exponent) (told : t ≡ is_e (get_or s from 0)) (on : not t ≡ false) (start : digits ≡ past_sign s (from + 1)) (read : x ≡ capped_exponent (size_at s digits negative)) where
  at_start : exponent_of s from ≡ exponent_at s from digits
  unfolding exponent_of
  at_start = if_true _ _ (sym told ∙ not-false t on) ∙ ap (exponent_at s from) (sym start)

  ends_at : x.end ≡ digits + run is_digit (drop digits s)
  unfolding capped_exponent size_at
  ends_at = ap (λ (y : Exponent). y.end) read

  pub exponent_bare : (r : Exponent) → x.end ≡ digits → r ≡ no_exponent from → r ≡ capped_exponent (exponent_of s from)
  unfolding exponent_at
  exponent_bare r same e =
      let n : run is_digit (drop digits s) ≡ 0 = omega (arith, ends_at) in
      e ∙ sym (ap capped_exponent (at_start ∙ if_true _ _ (eq-eqb (run is_digit (drop digits s)) 0 n)) ∙ none_cut from)

  pub exponent_read : negative ≡ is_minus (get_or s (from + 1) 0) → (x.end ≡ digits → ⊥) → x ≡ capped_exponent (exponent_of s from)
  unfolding exponent_at size_at
  exponent_read sign other =
      let n : run is_digit (drop digits s) ≡ 0 → ⊥ = λ (z : run is_digit (drop digits s) ≡ 0). other (omega (arith, ends_at)) in
      read ∙ ap (λ (b : Bool). capped_exponent (size_at s digits b)) sign ∙ sym (ap capped_exponent (at_start ∙ if_false _ _ (ne_eqb (run is_digit (drop digits s)) 0 n)))
