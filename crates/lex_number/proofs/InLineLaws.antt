-- Laws of a number inside a line.
-- Assumes nothing.
use mathlib.Core.Path.{◌≡◌, refl}
use mathlib.Core.List.{List, []}
use Prim.Native.Nat.{ℕ, ◌-◌, ◌≤◌}
use native.Mathlib.Nat.{add-zero}
use native.Mathlib.Omega.{arith}
use lib.ListN.{length, take, drop, drop_of_length-le}
use Rattle.base.specs.If.{both, either, provided◌then◌else◌}
use Rattle.base.specs.Runs.{run}
use Rattle.base.specs.Way.Class.{run_end}
use Rattle.base.specs.Bytes.{is_filled}
use Rattle.lex_number.specs.Number.{Number, is_sign, is_minus, is_point, is_e, past_sign, no_digits, digits_go_on, scan, no_exponent, exponent_of, well_formed, number_from, digits_of, exponent_from, number_of}
use Rattle.std.proofs.Common.{Err}
use Rattle.lex_number.specs.declared.NumberError.TheVariants.{Malformed}
use Rattle.lex_number.specs.Way.At.{word_from, number_at}

pub number_nothing : (Err Malformed) ≡ number_of []
unfolding provided◌then◌else◌ both either is_sign is_minus is_point is_e past_sign no_digits digits_go_on scan no_exponent exponent_of well_formed number_from digits_of exponent_from number_of
number_nothing = refl

pub at_past : (s : List ℕ) (from : ℕ) → length s ≤ from → record { number = Err Malformed; end = from } ≡ number_at s from
unfolding number_at word_from run
at_past s from h = rw (drop_of_length-le s h, add-zero from, number_nothing)

pub long_is : (s : List ℕ) (from end : ℕ) (number : Number) → end ≡ run_end is_filled s from → number ≡ number_of (take (end - from) (drop from s)) → record { number = number; end = end } ≡ number_at s from
unfolding number_at word_from
long_is s from end number e f =
    let n : end - from ≡ run is_filled (drop from s) = omega arith in
    rw (rw n at f, e)
