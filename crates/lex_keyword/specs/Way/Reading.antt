-- What each part of the bracket reader returns, in terms of the definition of the bracket.
-- Assumes nothing.
use Rattle.std.specs.Prelude.{ℕ, ◌+◌, Bool, not, List, length, get_or, leb, ltb, eqb}
use Prim.Native.Char.{code}
use Rattle.base.specs.If.{provided◌then◌else◌, both, either}
use Rattle.base.specs.Bytes.{is_blank}
use Rattle.base.specs.Runs.{run}
use Rattle.lex_keyword.specs.Names.{keyword_of}
use Rattle.lex_keyword.specs.Bracket.{is_open, is_good_name, named_as}
use Rattle.lex_keyword.specs.declared.Bracket.{Bracket}
use Rattle.lex_keyword.specs.declared.Bracket.TheVariants.{Bad}

-- the first byte that is not blank is a `[`, so the line is not plain
unfoldable pub opens_line : List ℕ → Bool
opens_line content = is_open (get_or content (run is_blank content) 0)

-- a bracket is closed at `end`, its first `]` or the end of the content: there is a `]`, and then a blank or the end
unfoldable pub closes_at : List ℕ → ℕ → Bool
closes_at content end = both (ltb end (length content)) (either (leb (length content) (end + 1)) (is_blank (get_or content (end + 1) 0)))

-- what a closed bracket with this name means
unfoldable pub says_name : List ℕ → ℕ → Bracket
says_name name argument = provided not (is_good_name name) then Bad else named_as (keyword_of name) argument

-- `Row]` follows the first byte, and then a blank or the end
unfoldable pub is_row : List ℕ → Bool
is_row content =
    both (eqb (get_or content 1 0) (code "R"))
    (both (eqb (get_or content 2 0) (code "o"))
    (both (eqb (get_or content 3 0) (code "w")) (both (eqb (get_or content 4 0) (code "]")) (closes_at content 4))))
