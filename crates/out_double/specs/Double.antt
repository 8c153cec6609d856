-- Request 11, "Curves in the browser": the double of a value word, and the doubles of a pair of a frequency and a value.
-- Assumes nothing.
use Rattle.std.specs.Prelude.{ℕ, ◌+◌, ◌-◌, ◌^◌, Bool, ltb, pos, Float, Option, Some, None}
use Rattle.std.specs.Float.{binary64}
use Rattle.std.specs.Float.Ieee.{of_int, mul, div, neg}
use Rattle.base.specs.If.{provided◌then◌else◌, both}
use Rattle.base.specs.Bytes.{within}
use Rattle.lex_number.specs.ValueWord.{decimal_of, is_value_word}
use Rattle.lex_number.specs.declared.Decimal.{Decimal}

-- "k from -22 to 22"
abbrev pub span : ℕ
span = 22

-- the double of a whole number: m and the powers of ten up to the 22nd are held exactly (proofs/ExactLaws)
unfoldable pub as_double : ℕ → Float
as_double n = of_int binary64 (pos n)

-- "one multiplication by, or one division by, the exact power of ten, m itself being exact": `size` is m
-- without its sign, `shifted` is k + 64
unfoldable pub scaled : ℕ → ℕ → Float
scaled size shifted =
    provided ltb shifted 64
    then div binary64 (as_double size) (as_double (10 ^ (64 - shifted)))
    else mul binary64 (as_double size) (as_double (10 ^ (shifted - 64)))

unfoldable pub signed : Bool → Float → Float
signed negative x = provided negative then neg x else x

-- "A sign survives; zero is plus zero": zero has one value word, and that has no sign
unfoldable pub double : Decimal → Float
double d = signed d.negative (scaled d.size d.shifted)

-- "a value m times ten to the k with k from -22 to 22": k is the one that the word holds, and a word that is no value
-- word is outside (D1, D2 of docs/READINGS.md)
unfoldable pub is_drawn : ℕ → Bool
is_drawn word = both (is_value_word word) (within (64 - span) (64 + span) (decimal_of word).shifted)

-- "either a drawn value or "outside"": Some of the double, or None
unfoldable pub drawn_of : ℕ → Option Float
drawn_of word = provided is_drawn word then Some (double (decimal_of word)) else None

-- "drawing a pair of a frequency and a value answers outside if either is"
unfoldable pub paired : Option Float → Option Float → Option (Float × Float)
paired (Some x) (Some y) = Some (x, y)
paired (Some x) None = None
paired None v = None
