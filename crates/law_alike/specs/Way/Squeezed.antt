-- A line with its blanks made one: what is left when only the blanks between words are changed.
-- Assumes nothing.
use Rattle.std.specs.Prelude.{ℕ, Bool, true, false, List, [], ◌∷◌, get_or, eqb}
use Rattle.base.specs.If.{provided◌then◌else◌}
use Rattle.base.specs.Bytes.{is_blank, space, tab}
use Rattle.lex_keyword.specs.Bracket.{is_open, is_not_closing}

-- a space in front, if anything stands behind it
unfoldable pub spaced : List ℕ → List ℕ
spaced [] = []
spaced (b ∷ s) = space ∷ b ∷ s

-- the bytes behind a byte of a word, or behind none
unfoldable pub squeezed_after : Bool → List ℕ → List ℕ
squeezed_after word [] = []
squeezed_after word (b ∷ s) =
    provided is_blank b then (provided word then spaced (squeezed_after false s) else squeezed_after false s) else b ∷ squeezed_after true s

-- blanks at the ends left out, and each run of blanks between words one space
unfoldable pub squeezed : List ℕ → List ℕ
squeezed s = squeezed_after false s

-- every blank written twice
unfoldable pub doubled : List ℕ → List ℕ
doubled [] = []
doubled (b ∷ s) = provided is_blank b then b ∷ b ∷ doubled s else b ∷ doubled s

-- a TAB for every space
unfoldable pub tabbed : List ℕ → List ℕ
tabbed [] = []
tabbed (b ∷ s) = (provided eqb b space then tab else b) ∷ tabbed s

-- the bytes up to the first `]` stay, and those behind it are written by f
unfoldable pub behind_bracket : (List ℕ → List ℕ) → List ℕ → List ℕ
behind_bracket f [] = []
behind_bracket f (b ∷ s) = provided is_not_closing b then b ∷ behind_bracket f s else b ∷ f s

-- the blanks of a line written by f; of a line that opens with a bracket in column 1 those behind the bracket
unfoldable pub respelt : (List ℕ → List ℕ) → List ℕ → List ℕ
respelt f c = provided is_open (get_or c 0 0) then behind_bracket f c else f c
