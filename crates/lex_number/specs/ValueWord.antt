-- Document 01, "The table": the value word, "256 times m's size, plus 2(k+64), plus 1 if negative". `shifted` is k + 64.
-- Assumes nothing.
use Rattle.std.specs.Prelude.{ℕ, ◌+◌, ◌*◌, ◌/◌, ◌%◌, Bool, not, eqb}
use Rattle.base.specs.If.{provided◌then◌else◌, both, either}
use Rattle.base.specs.Bytes.{within}
use Rattle.lex_number.specs.declared.Decimal.{Decimal}

abbrev pub zero_word : ℕ
zero_word = 128

unfoldable pub value_word : Bool → ℕ → ℕ → ℕ
value_word negative size shifted = 256 * size + 2 * shifted + (provided negative then 1 else 0)

-- the three parts of a value word
unfoldable pub decimal_of : ℕ → Decimal
decimal_of w = record { negative = eqb (w % 2) 1; size = w / 256; shifted = w / 2 % 128 }

-- the parts of a number that is not zero: m of 1 to 15 digits "not ending in 0", "k from -60 to 60"
unfoldable pub is_decimal : Decimal → Bool
is_decimal d =
    both (within 1 999_999_999_999_999 d.size) (both (not (eqb (d.size % 10) 0)) (within 4 124 d.shifted))

-- the word of zero, "zero is m 0, k 0 and has no sign", or that of another number
unfoldable pub is_value_word : ℕ → Bool
is_value_word w = either (eqb w zero_word) (is_decimal (decimal_of w))
