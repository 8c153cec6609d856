-- Document 01, "Lines and keywords": the significant lines of a text, which are neither blank nor all comment. Each is
-- kept with its number, the offset where it starts, and the place in which it is read.
-- Assumes nothing.
use Rattle.std.specs.Prelude.{ℕ, ◌+◌, Bool, List, [], ◌∷◌, ◌++◌, drop, eqb}
use Rattle.base.specs.If.{provided◌then◌else◌, both}
use Rattle.lex_line.specs.Lines.{Said, is_blank_line, contents}
use Rattle.lex_line.specs.Words.{Word, words_from, words, first_of, to_equals}
use Rattle.lex_keyword.specs.Names.{unknown}
use Rattle.lex_keyword.specs.Bracket.{bracket_of}
use Rattle.lex_keyword.specs.declared.Bracket.{Bracket}
use Rattle.lex_keyword.specs.declared.Bracket.TheVariants.{Plain, Indented, Bad, Unknown, Later, Keyword}
use Rattle.line_place.specs.Place.{moved, moved_by_line, before}
use Rattle.read_line.specs.Reading.{argument_from}

pub record Line : Type 0 where
  pub line : ℕ
  pub at : ℕ
  pub place : ℕ
  pub content : List ℕ

-- the number that is used as the keyword of a line without one
abbrev pub plain : ℕ
plain = 41

-- the keyword in a bracket; a bracket that is not allowed in a file counts as an unknown keyword
abbrev pub key_in : Bracket → ℕ
key_in Plain = plain
key_in Indented = plain
key_in Bad = unknown
key_in Unknown = unknown
key_in Later = unknown
key_in (Keyword k start) = k

-- where the argument of a keyword starts
abbrev pub argument_in : Bracket → ℕ
argument_in Plain = 0
argument_in Indented = 0
argument_in Bad = 0
argument_in Unknown = 0
argument_in Later = 0
argument_in (Keyword k start) = start

unfoldable pub key_at : List ℕ → ℕ
key_at content = key_in (bracket_of content)

-- the place after a line, by its words alone
unfoldable pub place_after : ℕ → List ℕ → ℕ
place_after p content =
    provided eqb (key_at content) plain then moved_by_line p (first_of (words content)) else moved p (key_at content)

-- the significant lines; the first raw line is line n, starts at offset `at` and is read in place p
unfoldable pub lines_from : ℕ → ℕ → ℕ → List Said → List Line
lines_from n at p [] = []
lines_from n at p (r ∷ rs) =
    provided is_blank_line r.content
    then lines_from (n + 1) (at + r.size + 1) p rs
    else
    record { line = n; at = at; place = p; content = r.content }
    ∷ lines_from (n + 1) (at + r.size + 1) (place_after p r.content) rs

-- the significant lines of a text from offset `at` on
unfoldable pub lines_at : List ℕ → ℕ → ℕ → ℕ → List Line
lines_at t n at p = lines_from n at p (contents (drop at t))

unfoldable pub significant : List ℕ → List Line
significant t = lines_at t 1 0 before

-- ---- what a line says

unfoldable pub key_of : Line → ℕ
key_of l = key_at l.content

-- the argument of its keyword, with its offset in the text
unfoldable pub argument_of : Line → Word
argument_of l =
    record {
      start = l.at + argument_in (bracket_of l.content);
      text = argument_from l.content (argument_in (bracket_of l.content));
    }

-- its words, and the words after its `=`, each with its offset in the text
unfoldable pub words_of : Line → List Word
words_of l = words_from l.at l.content

unfoldable pub right_words_of : Line → List Word
right_words_of l = words_from (l.at + (to_equals l.content + 1)) (drop (to_equals l.content + 1) l.content)

unfoldable pub no_word : Word
no_word = record { start = 0; text = [] }

abbrev pub first_word : List Word → Word
first_word [] = no_word
first_word (w ∷ ws) = w

abbrev pub second_word : List Word → Word
second_word [] = no_word
second_word (w ∷ ws) = first_word ws

-- the line is read in this place, and has no keyword
unfoldable pub stands_in : ℕ → Line → Bool
stands_in p l = both (eqb l.place p) (eqb (key_of l) plain)

-- ---- lines one after another

-- puts together what each line gives; a line may look at the lines after it
unfoldable pub gather : {A : Type 0} → (Line → List Line → List A) → List Line → List A
gather here [] = []
gather here (l ∷ ls) = here l ls ++ gather here ls

-- the lines before the first that does not pass the test
unfoldable pub up_to : (Line → Bool) → List Line → List Line
up_to inside [] = []
up_to inside (l ∷ ls) = provided inside l then l ∷ up_to inside ls else []
