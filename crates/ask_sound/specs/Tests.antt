-- Document 01, "The table", from "Sound": what the words of one record must be like, word by word. All sums are exact, none wraps.
-- Assumes nothing.
use Rattle.std.specs.Prelude.{ℕ, ◌+◌, ◌%◌, Bool, not, leb, eqb}
use Rattle.table_layout.specs.Codes.{lumped, un_ordered, banded}
use Rattle.table_layout.specs.Bounds.{most_map_pins, most_bandwidth, most_mult, longest_name}
use Rattle.base.specs.If.{provided◌then◌else◌, both, either}
use Rattle.base.specs.Bytes.{within}
use Rattle.lex_number.specs.ValueWord.{zero_word, is_value_word}

-- "indexes and ranges (even empty) inside": `many` elements from `first` on, out of `all`
unfoldable pub is_range : ℕ → ℕ → ℕ → Bool
is_range first many all = leb (first + many) all

-- "every name 1 to 120 bytes inside the text", which has `bytes` bytes
unfoldable pub is_name_in : ℕ → ℕ → ℕ → Bool
is_name_in bytes start size = both (within 1 longest_name size) (is_range start size bytes)

-- ---- steps

unfoldable pub has_no_side : ℕ → ℕ → Bool
has_no_side start size = both (eqb start 0) (eqb size 0)

-- "sides also 0 0"
unfoldable pub is_side : ℕ → ℕ → ℕ → Bool
is_side bytes start size = either (has_no_side start size) (is_name_in bytes start size)

-- "v above zero": a value word that is not zero and not negative
unfoldable pub is_length_word : ℕ → Bool
is_length_word w = both (is_value_word w) (both (not (eqb w zero_word)) (eqb (w % 2) 0))

-- "a Section amount fits its method": Mult of a Lumped section, Len of a Distributed one
unfoldable pub amount_fits : ℕ → ℕ → Bool
amount_fits method amount = provided eqb method lumped then within 1 most_mult amount else is_length_word amount

-- ---- maps and matrices

-- "Un_ordered has 0 0 for rows, columns"; those of the ordered two are 1 to 256
unfoldable pub is_grid : ℕ → ℕ → ℕ → Bool
is_grid order rows columns =
    provided eqb order un_ordered then both (eqb rows 0) (eqb columns 0) else both (within 1 most_map_pins rows) (within 1 most_map_pins columns)

-- "B 0 to 255", and 0 in the other forms
unfoldable pub is_bandwidth : ℕ → ℕ → Bool
is_bandwidth form bandwidth = provided eqb form banded then leb bandwidth most_bandwidth else eqb bandwidth 0
