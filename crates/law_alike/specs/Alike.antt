-- Two texts that differ only "in matrix forms giving the same numbers, comments, blank lines or blanks between words". The definition
-- compares the significant lines, so comments, blank lines, line numbers and offsets do not matter. It does not use the intake.
-- Assumes nothing.
use Rattle.std.specs.Prelude.{ℕ, ◌≤◌, ◌≡◌, Bool, true, not, List, [], ◌∷◌, ◌++◌, eqb}
use Rattle.base.specs.If.{both, either}
use Rattle.base.specs.Bytes.{bytes}
use Rattle.base.specs.Runs.{same}
use Rattle.lex_line.specs.Words.{words, first_of, has_equals, left_of, right_of}
use Rattle.lex_keyword.specs.Names.{begin_header, file_rev, date, redistribution, begin_icm_family, manufacturer, icm_family_description, icm_model_description}
use Rattle.lex_keyword.specs.Bracket.{bracket_of}
use Rattle.line_place.specs.Place.{opens_header_text}
use Rattle.line_place.specs.Place as place
use Rattle.line_argument.specs.Argument.{form_of}
use Rattle.read_line.specs.Reading.{argument_from}
use Rattle.doc.specs.Lines.{Line, plain, key_at, argument_in, key_of, argument_of, significant, up_to}
use Rattle.doc.specs.Document.{opens_matrix_at, in_matrix, conductors_in}
use Rattle.law_alike.specs.Written.{written_at}

-- ---- one line

-- "Blanks are .. optional about `=`": the lines, by their place, whose form has a `=`
unfoldable pub takes_equals : ℕ → List ℕ → Bool
takes_equals p content =
    both (has_equals content)
    (either (both (eqb p place.head) (same (first_of (left_of content)) (bytes "Ref_impedance")))
    (either (both (eqb p place.path) (same (first_of (words content)) (bytes "Section")))
    (both (eqb p place.map_head) (either (same (first_of (left_of content)) (bytes "Num_of_columns")) (same (first_of (left_of content)) (bytes "Num_of_rows"))))))

-- keywords that take free text, also those that open a text block
unfoldable pub takes_text : ℕ → Bool
takes_text k =
    either (eqb k file_rev)
    (either (eqb k date)
    (either (eqb k redistribution)
    (either (eqb k begin_icm_family)
    (either (eqb k manufacturer)
    (either (opens_header_text k) (either (eqb k icm_family_description) (eqb k icm_model_description)))))))

-- the bytes of a keyword's argument, without the blanks at its ends
abbrev pub argument_text : List ℕ → List ℕ
argument_text content = argument_from content (argument_in (bracket_of content))

-- "Lines before [Begin Header] and after [End] are read only for 2, 3, 4": no other rule and no question looks at them
unfoldable pub is_unread : ℕ → List ℕ → Bool
is_unread p content = either (eqb p place.done) (both (eqb p place.before) (not (eqb (key_at content) begin_header)))

-- two lines that say the same in place p; blanks between words, about `=`, after a bracket and at the ends do not matter,
-- and nothing matters in a line that is not read
pub data SameSaying (p : ℕ) (a b : List ℕ) : Type 0 where
  same_words : key_at a ≡ plain → key_at b ≡ plain → words a ≡ words b → SameSaying p a b
  same_sides :
      key_at a ≡ plain → key_at b ≡ plain → takes_equals p a ≡ true → takes_equals p b ≡ true → left_of a ≡ left_of b →
      right_of a ≡ right_of b → SameSaying p a b
  same_argument : (key_at a ≡ plain → ⊥) → key_at a ≡ key_at b → argument_text a ≡ argument_text b → SameSaying p a b
  same_text :
      (key_at a ≡ plain → ⊥) → key_at a ≡ key_at b → takes_text (key_at a) ≡ true →
      words (argument_text a) ≡ words (argument_text b) → SameSaying p a b
  same_unread : is_unread p a ≡ true → is_unread p b ≡ true → SameSaying p a b

pub record SameLine (l m : Line) : Type 0 where
  pub place : l.place ≡ m.place
  pub saying : SameSaying l.place l.content m.content

-- ---- matrices

-- the form that a matrix keyword names
abbrev pub form_at : Line → ℕ
form_at l = form_of (argument_of l).text

-- two matrices, each given by its opening line and the lines below it, that write the same number at every row and column
pub record SameNumbers (l : Line) (bs : List Line) (m : Line) (cs : List Line) : Type 0 where
  pub opens : opens_matrix_at l ≡ true
  pub place : l.place ≡ m.place
  pub kind : key_of l ≡ key_of m
  pub conductors : conductors_in (form_at l) bs ≡ conductors_in (form_at m) cs
  pub numbers : (i j : ℕ) → 1 ≤ i → i ≤ j → j ≤ conductors_in (form_at l) bs → written_at (form_at l) bs i j ≡ written_at (form_at m) cs i j

-- ---- all lines

pub data AlikeLines : List Line → List Line → Type 0 where
  none : AlikeLines [] []
  line : {l m : Line} {ls ms : List Line} → SameLine l m → AlikeLines ls ms → AlikeLines (l ∷ ls) (m ∷ ms)
  -- a matrix in another form; bs and cs are all lines of the two matrices, up to the first line outside
  matrix :
      {l m : Line} {ls ms : List Line} (bs cs : List Line) → SameNumbers l bs m cs → up_to in_matrix (bs ++ ls) ≡ bs →
      up_to in_matrix (cs ++ ms) ≡ cs → AlikeLines ls ms → AlikeLines (l ∷ (bs ++ ls)) (m ∷ (cs ++ ms))

abbrev pub Alike : List ℕ → List ℕ → Type 0
Alike t u = AlikeLines (significant t) (significant u)
