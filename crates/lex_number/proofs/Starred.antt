-- The starred readings of document 01, "Readings to try": one list of words with the answers of the document, and one
-- proof for the whole list.
-- Assumes nothing.
use mathlib.Core.Path.{◌≡◌, refl}
use mathlib.Core.Bool.{false}
use mathlib.Core.List.{List, [], ◌∷◌, map}
use Prim.Native.Nat.{ℕ, ◌+◌, ◌-◌}
use Prim.Native.String.{String}
use Rattle.base.specs.If.{both, either, provided◌then◌else◌}
use Rattle.base.specs.Bytes.{bytes, within, is_digit, is_capital, is_small, is_letter}
use Rattle.base.specs.Runs.{run, all}
use Rattle.lex_number.specs.Number.{Number, is_sign, is_minus, is_point, is_e, past_sign, no_digits, digits_go_on, with_point, with_digit, with_byte, scan, no_exponent, exponent_at, exponent_of, power_in, scale_by, scale_of, raised, lowered, in_range, value_as, well_formed, number_from, digits_of, exponent_from, number_of}
use Rattle.std.proofs.Common.{Ok, Err}
use Rattle.lex_number.specs.declared.NumberError.TheVariants.{Range}
use Rattle.lex_number.specs.Integer.{value_of}
use Rattle.lex_number.specs.ValueWord.{zero_word, value_word}

-- m times ten to the k, for a k of at least zero; and for one of at most zero
infix 80 ◌raised_by◌
abbrev pub ◌raised_by◌ : ℕ → ℕ → Number
m raised_by k = Ok (value_word false m (64 + k))

infix 80 ◌lowered_by◌
abbrev pub ◌lowered_by◌ : ℕ → ℕ → Number
m lowered_by k = Ok (value_word false m (64 - k))

pub record Reading : Type 0 where
  pub word : List ℕ
  pub answer : Number

infix 70 ◌is◌
abbrev pub ◌is◌ : String → Number → Reading
word is answer = record { word = bytes word; answer = answer }

abbrev pub starred : List Reading
starred =
    "4.50nH" is 45 lowered_by 10
    ∷ "1M" is 1 raised_by 6
    ∷ "1m" is 1 lowered_by 3
    ∷ "1F" is 1 raised_by 0
    ∷ "1f" is 1 lowered_by 15
    ∷ "2e" is 2 raised_by 0
    ∷ "2e3k" is 2 raised_by 6
    ∷ "-0.0" is Ok zero_word
    ∷ "0e500" is Ok zero_word
    ∷ "1e60" is 1 raised_by 60
    ∷ "1e61" is Err Range
    ∷ []

pub starred_hold : map (λ (r : Reading). number_of r.word) starred ≡ map (λ (r : Reading). r.answer) starred
unfolding provided◌then◌else◌ both either within is_digit is_capital is_small is_letter run all value_of value_word is_sign is_minus is_point is_e past_sign no_digits digits_go_on with_point with_digit with_byte scan no_exponent exponent_at exponent_of power_in scale_by scale_of raised lowered in_range value_as well_formed number_from digits_of exponent_from number_of
starred_hold = refl
