-- Document 01, "Lines and keywords": what the bracket at the front of a line means. A line is given by its content, the
-- bytes before its comment and terminator.
-- Assumes nothing.
use Rattle.std.specs.Prelude.{ℕ, ◌+◌, Bool, true, not, List, [], ◌∷◌, length, take, drop, get_or, leb, ltb, eqb}
use Prim.Native.Char.{code}
use Rattle.base.specs.If.{provided◌then◌else◌, both, either}
use Rattle.base.specs.Bytes.{bytes, is_blank, is_digit, is_letter}
use Rattle.base.specs.Runs.{run, all}
use Rattle.lex_keyword.specs.Names.{same_name, keyword_of, is_later, unknown}
use Rattle.lex_keyword.specs.declared.Bracket.{Bracket}
use Rattle.lex_keyword.specs.declared.Bracket.TheVariants.{Plain, Indented, Bad, Unknown, Later, Keyword}

unfoldable pub is_open : ℕ → Bool
is_open b = eqb b (code "[")

-- any byte but `]`
unfoldable pub is_not_closing : ℕ → Bool
is_not_closing b = not (eqb b (code "]"))

-- "parted by exactly one space or underscore"
unfoldable pub is_separator : ℕ → Bool
is_separator b = either (eqb b (code " ")) (eqb b (code "_"))

-- "words of letters, digits"
unfoldable pub is_plain_byte : ℕ → Bool
is_plain_byte b = either (is_letter b) (is_digit b)

-- the byte b put in front of the first of these words
unfoldable pub push : ℕ → List (List ℕ) → List (List ℕ)
push b [] = (b ∷ []) ∷ []
push b (w ∷ ws) = (b ∷ w) ∷ ws

-- the words of a keyword: the bytes between its separators; a word may be empty
unfoldable pub parted : List ℕ → List (List ℕ)
parted [] = [] ∷ []
parted (b ∷ s) = provided is_separator b then [] ∷ parted s else push b (parted s)

-- "in S-parameter the hyphen"
unfoldable pub is_hyphen_word : List ℕ → Bool
is_hyphen_word w = same_name w (bytes "S-parameter")

unfoldable pub is_good_word : List ℕ → Bool
is_good_word w = both (ltb 0 (length w)) (either (all is_plain_byte w) (is_hyphen_word w))

unfoldable pub are_good_words : List (List ℕ) → Bool
are_good_words [] = true
are_good_words (w ∷ ws) = both (is_good_word w) (are_good_words ws)

-- "Inside: words of letters, digits, and in S-parameter the hyphen, the keyword's first byte a letter"
unfoldable pub is_good_name : List ℕ → Bool
is_good_name name = both (is_letter (get_or name 0 0)) (are_good_words (parted name))

-- "A keyword opens in column 1, runs to `]`": how many bytes there are between the brackets
unfoldable pub name_length : List ℕ → ℕ
name_length content = run is_not_closing (drop 1 content)

unfoldable pub name_of : List ℕ → List ℕ
name_of content = take (name_length content) (drop 1 content)

-- "then a blank or the end": there is a `]`, and a blank or the end follows it
unfoldable pub is_closed : List ℕ → Bool
is_closed content =
    both (ltb (name_length content + 1) (length content))
    (either (leb (length content) (name_length content + 2)) (is_blank (get_or content (name_length content + 2) 0)))

unfoldable pub is_good_bracket : List ℕ → Bool
is_good_bracket content = both (is_closed content) (is_good_name (name_of content))

-- where the argument starts: after the bracket and the blanks after it; without an argument, the end of the content
unfoldable pub argument_at : List ℕ → ℕ
argument_at content = name_length content + 2 + run is_blank (drop (name_length content + 2) content)

-- 7 for a "keyword not of 000", 8 for a "later keyword above", else the keyword and where its argument starts
unfoldable pub named_as : ℕ → ℕ → Bracket
named_as key argument = provided eqb key unknown then Unknown else provided is_later key then Later else Keyword key argument

-- Plain if the first non-blank byte is no `[`; Indented for "A first non-blank `[` outside column 1 is 6, except in a
-- text block"; Bad for a bad bracket, which is 6; else what the bracket names
unfoldable pub bracket_of : List ℕ → Bracket
bracket_of content =
    provided not (is_open (get_or content (run is_blank content) 0)) then Plain else
    provided ltb 0 (run is_blank content) then Indented else
    provided not (is_good_bracket content) then Bad else
    named_as (keyword_of (name_of content)) (argument_at content)
