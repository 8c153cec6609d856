-- Document 01, "Lines and keywords": "Blanks are space and TAB"; words are the bytes between blanks.
-- Assumes nothing.
use Rattle.std.specs.Prelude.{ℕ, suc, ◌+◌, ◌-◌, Bool, false, List, [], ◌∷◌, map, reverse, length, take, drop, ltb}
use Prim.Native.Char.{code}
use Rattle.base.specs.If.{provided◌then◌else◌}
use Rattle.base.specs.Bytes.{is_blank, is_before, is_filled}
use Rattle.base.specs.Runs.{run}

-- a word: where it starts, and its bytes
pub record Word : Type 0 where
  pub start : ℕ
  pub text : List ℕ

-- the word before s goes on in s: s has a first byte, and it is not blank
unfoldable pub word_goes_on : List ℕ → Bool
word_goes_on [] = false
word_goes_on (b ∷ s) = is_filled b

-- the byte b, at position `at`, put in front of the first of these words
unfoldable pub grown : ℕ → ℕ → List Word → List Word
grown at b [] = record { start = at; text = b ∷ [] } ∷ []
grown at b (w ∷ ws) = record { start = at; text = b ∷ w.text } ∷ ws

-- the words of s, the first byte of s being at position `at`
unfoldable pub words_from : ℕ → List ℕ → List Word
words_from at [] = []
words_from at (b ∷ s) =
    provided is_blank b then words_from (suc at) s else
    provided word_goes_on s then grown at b (words_from (suc at) s) else record { start = at; text = b ∷ [] } ∷ words_from (suc at) s

-- how many bytes right before a position pass the test, counted backwards from there
unfoldable pub back_run : (ℕ → Bool) → List ℕ → ℕ → ℕ
back_run p s place = run p (reverse (take place s))

-- where the blanks at the end of s start
unfoldable pub last_end : List ℕ → ℕ
last_end s = length s - back_run is_blank s (length s)

-- the words of a line, as their bytes
abbrev pub words : List ℕ → List (List ℕ)
words content = map (λ (w : Word). w.text) (words_from 0 content)

-- the first and the second word of a line; empty if there is none
abbrev pub first_of : List (List ℕ) → List ℕ
first_of [] = []
first_of (w ∷ ws) = w

abbrev pub second_of : List (List ℕ) → List ℕ
second_of [] = []
second_of (w ∷ ws) = first_of ws

-- ---- forms with `=`: "Blanks are .. optional about `=`"; the first `=` of a line is the sign

-- how many bytes there are before the first `=`
abbrev pub to_equals : List ℕ → ℕ
to_equals content = run (is_before (code "=")) content

unfoldable pub has_equals : List ℕ → Bool
has_equals content = ltb (to_equals content) (length content)

-- the words before the sign; all words if there is no sign
unfoldable pub left_of : List ℕ → List (List ℕ)
left_of content = words (take (to_equals content) content)

-- the words after the sign
unfoldable pub right_of : List ℕ → List (List ℕ)
right_of content = words (drop (to_equals content + 1) content)
