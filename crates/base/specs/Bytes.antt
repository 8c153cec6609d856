-- Names of single bytes, and the classes of bytes that document 01 uses.
-- Assumes nothing.
use Rattle.std.specs.Prelude.{ℕ, ◌+◌, Bool, not, List, [], ◌∷◌, leb, eqb}
use Prim.Native.Char.{code}
use Prim.Native.String.{String}
use Rattle.base.specs.If.{provided◌then◌else◌, both, either}

-- the bytes of a quoted text
abbrev pub bytes : String → List ℕ
bytes String.[] = []
bytes (String.◌∷◌ c s) = code c ∷ bytes s

abbrev pub tab : ℕ
tab = 9

abbrev pub line_feed : ℕ
line_feed = 10

abbrev pub carriage_return : ℕ
carriage_return = 13

abbrev pub space : ℕ
space = 32

-- from low to high, both included
unfoldable pub within : ℕ → ℕ → ℕ → Bool
within low high b = both (leb low b) (leb b high)

-- "Blanks are space and TAB"
unfoldable pub is_blank : ℕ → Bool
is_blank b = either (eqb b space) (eqb b tab)

-- 0 to 9
unfoldable pub is_digit : ℕ → Bool
is_digit b = within 48 57 b

-- A to Z
unfoldable pub is_capital : ℕ → Bool
is_capital b = within 65 90 b

-- a to z
unfoldable pub is_small : ℕ → Bool
is_small b = within 97 122 b

unfoldable pub is_letter : ℕ → Bool
is_letter b = either (is_capital b) (is_small b)

-- a capital letter as its small letter, any other byte unchanged: what is compared where "case does not count"
unfoldable pub small : ℕ → ℕ
small b = provided is_capital b then b + 32 else b

-- any byte but a blank: the bytes of a word
unfoldable pub is_filled : ℕ → Bool
is_filled b = not (is_blank b)

-- "0x20 to 0x7E, TAB"
unfoldable pub is_printed : ℕ → Bool
is_printed b = either (within 32 126 b) (eqb b tab)

-- any byte but `stop`
unfoldable pub is_before : ℕ → ℕ → Bool
is_before stop b = not (eqb b stop)

-- any byte but the comment byte, LF and CR: the bytes of a line's content
unfoldable pub is_content : ℕ → ℕ → Bool
is_content comment b = both (is_before comment b) (both (is_before line_feed b) (is_before carriage_return b))
