-- A number inside a whole text, whose lines have not been found yet. Its word ends at a blank, a terminator or a comment.
-- Assumes nothing.
use Rattle.std.specs.Prelude.{ℕ, ◌≡◌, Bool, List, take, drop, eqb, Option, IfSome, is_ok}
use Prim.Native.Char.{code}
use Rattle.base.specs.If.{both, either}
use Rattle.base.specs.Bytes.{is_digit, is_letter, is_filled, is_content}
use Rattle.base.specs.Runs.{run}
use Rattle.base.specs.Way.Class.{run_end}
use Rattle.lex_number.specs.Number.{is_sign, number_of, Number}
use Rattle.lex_number.specs.declared.NumberAt.{NumberAt}

-- a byte of a word: content that is not blank
unfoldable pub is_word : ℕ → ℕ → Bool
is_word comment b = both (is_content comment b) (is_filled b)

-- a byte that numbers are written with; the comment byte must not be one
unfoldable pub is_spelling : ℕ → Bool
is_spelling b = either (is_digit b) (either (is_letter b) (either (is_sign b) (eqb b (code "."))))

-- a number within its bounds: neither 13 nor 14
abbrev pub is_good_number : Number → Bool
is_good_number n = is_ok n

-- the word that starts at `from`, as a number, and where it ends
unfoldable pub number_in : ℕ → List ℕ → ℕ → NumberAt
number_in comment s from =
    record { number = number_of (take (run (is_word comment) (drop from s)) (drop from s)); end = run_end (is_word comment) s from }

-- an answer of the short way is the number at `from` and where its word ends; it may have none
abbrev pub Knows : ℕ → List ℕ → ℕ → Option NumberAt → Type 0
Knows comment s from r = IfSome r (λ n. n ≡ number_in comment s from)
