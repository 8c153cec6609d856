-- Document 01, "Listing": how a line, a number and a value are printed.
-- Assumes nothing.
use Rattle.std.specs.Prelude.{ℕ, zero, suc, ◌+◌, ◌-◌, ◌/◌, ◌%◌, Bool, List, [], ◌∷◌, ◌++◌, ltb}
use Prim.Native.Char.{code}
use Rattle.base.specs.If.{provided◌then◌else◌}
use Rattle.base.specs.Bytes.{space, line_feed}
use Rattle.lex_number.specs.ValueWord.{decimal_of}
use Rattle.lex_number.specs.declared.Decimal.{Decimal}

-- a line: its fields with a space between them, then LF
unfoldable pub line_of : List (List ℕ) → List ℕ
line_of [] = line_feed ∷ []
line_of (field ∷ []) = field ++ (line_feed ∷ [])
line_of (field ∷ more ∷ fields) = field ++ (space ∷ line_of (more ∷ fields))

-- the last digit of a number
unfoldable pub last_digit : ℕ → ℕ
last_digit n = code "0" + n % 10

-- the digits of a number, put in front of `digits`; the first argument is the most that are put there
unfoldable pub digits_before : ℕ → ℕ → List ℕ → List ℕ
digits_before zero n digits = digits
digits_before (suc most) n digits =
    provided ltb n 10 then last_digit n ∷ digits else digits_before most (n / 10) (last_digit n ∷ digits)

-- a number in decimal digits, with no leading zero; a word of 64 bits has at most 20
unfoldable pub decimal : ℕ → List ℕ
decimal n = digits_before 20 n []

unfoldable pub sign_text : Bool → List ℕ
sign_text negative = provided negative then code "-" ∷ [] else []

-- k, which a value word holds as k + 64
unfoldable pub exponent_text : ℕ → List ℕ
exponent_text shifted = provided ltb shifted 64 then code "-" ∷ decimal (64 - shifted) else decimal (shifted - 64)

unfoldable pub decimal_text : Decimal → List ℕ
decimal_text d = sign_text d.negative ++ (decimal d.size ++ (code "e" ∷ exponent_text d.shifted))

-- m, `e`, k, with `-` in front if negative (G4 of docs/READINGS.md); "Zero prints 0e0"
unfoldable pub value_text : ℕ → List ℕ
value_text word = decimal_text (decimal_of word)
