-- Document 01, "Sections and matrices": the number that a matrix writes at a row and a column, by its own form. "Entries not written .. are
-- zero".
-- Assumes nothing.
use Rattle.std.specs.Prelude.{ℕ, ◌-◌, Bool, List, [], ◌∷◌, ◌++◌, map, get_or, eqb, unwrap_or}
use Rattle.table_layout.specs.Codes.{diagonal, sparse}
use Rattle.base.specs.If.{provided◌then◌else◌, both}
use Rattle.lex_line.specs.Words.{words, first_of, second_of}
use Rattle.lex_number.specs.Number.{number_of, word_in}
use Rattle.lex_number.specs.Integer.{whole_of}
use Rattle.lex_number.specs.ValueWord.{zero_word}
use Rattle.lex_keyword.specs.Names.{row}
use Rattle.doc.specs.Lines.{Line, plain, key_of, up_to}
use Rattle.doc.specs.Document.{given_by}

unfoldable pub is_plain : Line → Bool
is_plain l = eqb (key_of l) plain

-- "[Row] i": the lines below it, up to the next keyword
unfoldable pub row_lines : ℕ → List Line → List Line
row_lines i [] = []
row_lines i (l ∷ ls) = provided both (eqb (key_of l) row) (eqb (given_by l) i) then up_to is_plain ls else row_lines i ls

-- "Numbers may run over lines": the words of the lines, one after another
unfoldable pub numbers_of : List Line → List (List ℕ)
numbers_of [] = []
numbers_of (l ∷ ls) = (provided is_plain l then words l.content else []) ++ numbers_of ls

-- the value word of number i, counted from 0; zero if there are fewer
unfoldable pub word_of : ℕ → List (List ℕ) → ℕ
word_of i ws = get_or (map (λ (w : List ℕ). word_in (number_of w)) ws) i zero_word

-- "lines `column value`": the value of column j; zero if no line has it
unfoldable pub sparse_word : ℕ → List Line → ℕ
sparse_word j [] = zero_word
sparse_word j (l ∷ ls) =
    provided eqb (unwrap_or (whole_of (first_of (words l.content))) 0) j then word_in (number_of (second_of (words l.content))) else sparse_word j ls

-- The number at row i and column j, where i is at most j. In a Diagonal_matrix it is the i-th of N numbers, and zero off the
-- diagonal. In a Sparse_matrix it is found by its column. Otherwise it is number j - i of row i, counted from 0: "diagonal first".
unfoldable pub written_at : ℕ → List Line → ℕ → ℕ → ℕ
written_at form body i j =
    provided eqb form diagonal then (provided eqb i j then word_of (i - 1) (numbers_of body) else zero_word) else
    provided eqb form sparse then sparse_word j (row_lines i body) else word_of (j - i) (numbers_of (row_lines i body))
