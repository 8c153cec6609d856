-- Document 01, "Numbers": the number that a word writes. Exact for words of any length; nothing here is capped.
-- Assumes nothing.
use Rattle.std.specs.Prelude.{ℕ, ◌+◌, ◌-◌, ◌*◌, Bool, true, false, not, List, [], ◌∷◌, ℤ, pos, negsuc, neg_ℤ, take, drop, get_or, leb, ltb, eqb, Result, Ok, Err}
use Rattle.std.specs.Result.{result_unwrap_or}
use Prim.Native.Char.{code}
use Rattle.base.specs.If.{provided◌then◌else◌, both, either}
use Rattle.base.specs.Bytes.{is_digit, is_letter}
use Rattle.base.specs.Runs.{run, all}
use Rattle.lex_number.specs.Integer.{value_of}
use Rattle.lex_number.specs.ValueWord.{zero_word, value_word}
use Rattle.lex_number.specs.declared.Digits.{Digits}
use Rattle.lex_number.specs.declared.Exponent.{Exponent}
use Rattle.lex_number.specs.declared.Scaling.{Scaling}
use Rattle.lex_number.specs.declared.Scale.{Scale}
use Rattle.lex_number.specs.declared.NumberError.{NumberError}
use Rattle.lex_number.specs.declared.NumberError.TheVariants.{Malformed, Range}

-- a word read as a number: its value word, or why it has none
abbrev pub Number : Type 0
Number = Result ℕ NumberError

-- "Optional sign": + or -
unfoldable pub is_sign : ℕ → Bool
is_sign b = either (eqb b (code "+")) (eqb b (code "-"))

unfoldable pub is_minus : ℕ → Bool
is_minus b = eqb b (code "-")

unfoldable pub is_point : ℕ → Bool
is_point b = eqb b (code ".")

-- "e or E"
unfoldable pub is_e : ℕ → Bool
is_e b = either (eqb b (code "e")) (eqb b (code "E"))

-- the position after an optional sign at `from`
unfoldable pub past_sign : List ℕ → ℕ → ℕ
past_sign s from = provided is_sign (get_or s from 0) then from + 1 else from

-- no digit read yet; the next byte is at `from`
unfoldable pub no_digits : ℕ → Digits
no_digits from = record { all = 0; size = 0; zeros = 0; fraction = 0; some = false; point = false; end = from }

-- "digits with at most one point": the digits go on with this byte
unfoldable pub digits_go_on : Digits → ℕ → Bool
digits_go_on d b = either (is_digit b) (both (is_point b) (not d.point))

-- the digits with a point added
unfoldable pub with_point : Digits → Digits
with_point d =
    record { all = d.all; size = d.size; zeros = d.zeros; fraction = d.fraction; some = d.some; point = true; end = d.end + 1 }

-- the digits with one more digit. `all` is the number that the digits write; `size` is the number up to the last digit
-- that is not 0; `zeros` counts the zeros after that digit; `fraction` counts the digits after the point
unfoldable pub with_digit : Digits → ℕ → Digits
with_digit d v =
    record {
      all = 10 * d.all + v;
      size = provided eqb v 0 then d.size else 10 * d.all + v;
      zeros = provided eqb v 0 then d.zeros + 1 else 0;
      fraction = provided d.point then d.fraction + 1 else d.fraction;
      some = true;
      point = d.point;
      end = d.end + 1;
    }

unfoldable pub with_byte : Digits → ℕ → Digits
with_byte d b = provided is_point b then with_point d else with_digit d (b - 48)

-- the digits at the front of s, added to the digits d before them
unfoldable pub scan : List ℕ → Digits → Digits
scan [] d = d
scan (b ∷ s) d = provided digits_go_on d b then scan s (with_byte d b) else d

-- no exponent: the letters start at `from`
unfoldable pub no_exponent : ℕ → Exponent
no_exponent from = record { size = 0; negative = false; end = from }

-- the exponent whose digits start at `digits`, if there is one
unfoldable pub exponent_at : List ℕ → ℕ → ℕ → Exponent
exponent_at s from digits =
    provided eqb (run is_digit (drop digits s)) 0
    then no_exponent from
    else record { size = value_of 0 (take (run is_digit (drop digits s)) (drop digits s)); negative = is_minus (get_or s (from + 1) 0); end = digits + run is_digit (drop digits s) }

-- "e or E with optional sign and digits, if digits follow"
unfoldable pub exponent_of : List ℕ → ℕ → Exponent
exponent_of s from = provided is_e (get_or s from 0) then exponent_at s from (past_sign s (from + 1)) else no_exponent from

-- a letter that raises the power of ten by this power, and one that lowers it
infix 80 ◌raises◌
abbrev pub ◌raises◌ : ℕ → ℕ → Scaling
letter raises power = (letter, pos power)

infix 80 ◌lowers◌
abbrev pub ◌lowers◌ : ℕ → ℕ → Scaling
letter lowers power = (letter, neg_ℤ (pos power))

-- "the first scaling by T G M k m u n p f (12, 9, 6, 3, -3, -6, -9, -12, -15)"
abbrev pub scalings : List Scaling
scalings =
    code "T" raises 12
    ∷ code "G" raises 9
    ∷ code "M" raises 6
    ∷ code "k" raises 3
    ∷ code "m" lowers 3
    ∷ code "u" lowers 6
    ∷ code "n" lowers 9
    ∷ code "p" lowers 12
    ∷ code "f" lowers 15
    ∷ []

-- the power of a letter, looked up in a list; "any other letter by nothing"
unfoldable pub power_in : List Scaling → ℕ → ℤ
power_in [] b = pos 0
power_in (s ∷ others) b = provided eqb b s.0 then s.1 else power_in others b

-- by how much a number is above zero, or 0 if it is below
abbrev pub above_zero : ℤ → ℕ
above_zero (pos n) = n
above_zero (negsuc n) = 0

-- a power of ten as two numbers: by how much it is above zero, and by how much it is below
unfoldable pub scale_by : ℤ → Scale
scale_by power = record { up = above_zero power; down = above_zero (neg_ℤ power) }

-- by how much a letter raises and lowers the power of ten
unfoldable pub scale_of : ℕ → Scale
scale_of b = scale_by (power_in scalings b)

-- k is `raised` minus `lowered`. The zeros after m, a positive exponent and the letter raise it; the digits after the
-- point, a negative exponent and the letter lower it
unfoldable pub raised : Digits → Exponent → Scale → ℕ
raised d x c = d.zeros + (provided x.negative then 0 else x.size) + c.up

unfoldable pub lowered : Digits → Exponent → Scale → ℕ
lowered d x c = d.fraction + (provided x.negative then x.size else 0) + c.down

-- "Non-zero: at most 15 digits in m, k from -60 to 60, else 14"
unfoldable pub in_range : ℕ → ℕ → ℕ → Bool
in_range m up down = both (ltb m 1_000_000_000_000_000) (both (leb down (up + 60)) (leb up (down + 60)))

-- "zero is m 0, k 0 and has no sign"
unfoldable pub value_as : Bool → ℕ → ℕ → ℕ → Number
value_as negative m up down =
    provided eqb m 0 then Ok zero_word else
    provided in_range m up down then Ok (value_word negative m (up + 64 - down)) else Err Range

-- "at least one digit", "then letters only"
unfoldable pub well_formed : List ℕ → Digits → Exponent → Bool
well_formed s d x = both d.some (all is_letter (drop x.end s))

unfoldable pub number_from : List ℕ → Digits → Exponent → Scale → Number
number_from s d x c =
    provided well_formed s d x then value_as (is_minus (get_or s 0 0)) d.size (raised d x c) (lowered d x c) else Err Malformed

unfoldable pub digits_of : List ℕ → Digits
digits_of s = scan (drop (past_sign s 0) s) (no_digits (past_sign s 0))

unfoldable pub exponent_from : List ℕ → Digits → Exponent
exponent_from s d = exponent_of s d.end

-- the number that a word writes
unfoldable pub number_of : List ℕ → Number
number_of s =
    number_from s (digits_of s) (exponent_from s (digits_of s)) (scale_of (get_or s (exponent_from s (digits_of s)).end 0))

-- whether a number is well formed, else 13; and whether a well-formed number is within its bounds, else 14
abbrev pub is_formed : Number → Bool
is_formed (Ok w) = true
is_formed (Err Malformed) = false
is_formed (Err Range) = true

abbrev pub is_bounded : Number → Bool
is_bounded (Ok w) = true
is_bounded (Err Malformed) = true
is_bounded (Err Range) = false

-- the value word of a number, 0 if it is malformed or out of range
abbrev pub word_in : Number → ℕ
word_in n = result_unwrap_or n 0
