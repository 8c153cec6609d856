-- The document that a text writes: the model list, models with their steps, maps with their pins, sections with their
-- matrices and values. Every text has one, also a text that is refused; the rules are elsewhere.
-- Assumes nothing.
use Rattle.std.specs.Prelude.{ℕ, ◌+◌, ◌-◌, max, Bool, false, not, List, [], ◌∷◌, ◌++◌, length, eqb, unwrap_or}
use Rattle.table_record.specs.declared.Value.{Value}
use Rattle.table_layout.specs.Codes.{diagonal, sparse, end_kind, section_kind, fork_kind, endfork_kind, resistance_kind, inductance_kind, conductance_kind, capacitance_kind}
use Rattle.base.specs.If.{provided◌then◌else◌, both, either}
use Rattle.lex_line.specs.Words.{Word, words, first_of, second_of}
use Rattle.lex_number.specs.Number.{number_of, word_in}
use Rattle.lex_number.specs.Integer.{whole_of}
use Rattle.lex_keyword.specs.Names.{
  row,
  bandwidth,
  icm_pin_map,
  begin_icm_model,
  derivation_method,
  resistance_matrix,
  inductance_matrix,
  conductance_matrix,
  begin_icm_section,
}
use Rattle.line_place.specs.Place.{is_in_family, is_in_model, opens_matrix, is_row_or_bandwidth}
use Rattle.line_place.specs.Place as place
use Rattle.line_argument.specs.Argument.{form_of, method_of}
use Rattle.line_head.specs.Head.{says_ratio, head_line_of, head_next, new_head}
use Rattle.line_head.specs.declared.Head.{Head}
use Rattle.line_path.specs.Path.{saying_of, is_mult, amount_of}
use Rattle.line_path.specs.Path as path
use Rattle.line_map.specs.PinMap.{map_line_of, map_next, new_map}
use Rattle.line_map.specs.declared.Map as pin_map
use Rattle.doc.specs.Lines.{
  Line,
  plain,
  significant,
  key_of,
  argument_of,
  words_of,
  right_words_of,
  no_word,
  first_word,
  second_word,
  stands_in,
  gather,
  up_to,
}

-- ---- what a document is made of

-- a name, and the line that it is on
pub record Named : Type 0 where
  pub name : Word
  pub line : ℕ

-- "kind 0 end 1 section 2 fork 3 endfork"; `mult` tells of a section whether its amount is a Mult
pub record Step : Type 0 where
  pub kind : ℕ
  pub name : Word
  pub mult : Bool
  pub amount : ℕ
  pub side : Word
  pub line : ℕ

-- `sgr` is the line of its SGR, 0 if it has none
pub record Model : Type 0 where
  pub name : Word
  pub line : ℕ
  pub type : ℕ
  pub sgr : ℕ
  pub steps : List Step

pub record Map : Type 0 where
  pub name : Word
  pub line : ℕ
  pub order : ℕ
  pub rows : ℕ
  pub columns : ℕ
  pub pins : List Named

pub record Matrix : Type 0 where
  pub kind : ℕ
  pub form : ℕ
  pub bandwidth : ℕ
  pub conductors : ℕ
  pub values : List Value
  pub line : ℕ

pub record Section : Type 0 where
  pub name : Word
  pub line : ℕ
  pub method : ℕ
  pub matrices : List Matrix

pub record Document : Type 0 where
  pub listed : List Named
  pub models : List Model
  pub maps : List Map
  pub sections : List Section

-- ---- paths

-- what a line of a path says; a line that is in no path says nothing
unfoldable pub saying_at : Line → ℕ
saying_at l = provided stands_in place.path l then saying_of (first_of (words l.content)) else path.says_nothing

-- "perhaps with `Side name` as the next line read"
abbrev pub side_in : List Line → Word
side_in [] = no_word
side_in (l ∷ ls) = provided eqb (saying_at l) path.says_side then second_word (words_of l) else no_word

unfoldable pub step_of : Line → List Line → List Step
step_of l after =
    provided eqb (saying_at l) path.says_end
    then record { kind = end_kind; name = second_word (words_of l); mult = false; amount = 0; side = side_in after; line = l.line } ∷ [] else
    provided eqb (saying_at l) path.says_section
    then record { kind = section_kind; name = second_word (right_words_of l); mult = is_mult l.content; amount = amount_of l.content; side = no_word; line = l.line } ∷ [] else
    provided eqb (saying_at l) path.says_fork
    then record { kind = fork_kind; name = no_word; mult = false; amount = 0; side = no_word; line = l.line } ∷ [] else
    provided eqb (saying_at l) path.says_endfork
    then record { kind = endfork_kind; name = no_word; mult = false; amount = 0; side = no_word; line = l.line } ∷ [] else []

unfoldable pub steps_in : List Line → List Step
steps_in body = gather step_of body

-- ---- models

-- what the lines of a model's head give; `kind` is the table's type plus 1
unfoldable pub head_in : Head → List Line → Head
head_in h [] = h
head_in h (l ∷ ls) = head_in (provided stands_in place.head l then head_next (head_line_of l.content) h else h) ls

-- a line `SGR n:1` of a model's head
unfoldable pub says_sgr : Line → Bool
says_sgr l = both (stands_in place.head l) (eqb (head_line_of l.content).says says_ratio)

-- the line of a model's SGR, of which a second one is 12; n if none of these lines says it
unfoldable pub sgr_in : ℕ → List Line → ℕ
sgr_in n [] = n
sgr_in n (l ∷ ls) = sgr_in (provided says_sgr l then l.line else n) ls

unfoldable pub opens_model : Line → Bool
opens_model l = both (is_in_family l.place) (eqb (key_of l) begin_icm_model)

-- the lines of a model: those up to its end
unfoldable pub in_model : Line → Bool
in_model l = is_in_model l.place

unfoldable pub model_of : Line → List Line → Model
model_of l body =
    record {
      name = argument_of l;
      line = l.line;
      type = (head_in new_head body).kind - 1;
      sgr = sgr_in 0 body;
      steps = steps_in body;
    }

unfoldable pub model_at : Line → List Line → List Model
model_at l after = provided opens_model l then model_of l (up_to in_model after) ∷ [] else []

-- ---- the list

-- "one model per line, first word the name"
unfoldable pub listed_at : Line → List Line → List Named
listed_at l after = provided stands_in place.list l then record { name = first_word (words_of l); line = l.line } ∷ [] else []

-- ---- pin maps

unfoldable pub opens_map : Line → Bool
opens_map l = both (is_in_family l.place) (eqb (key_of l) icm_pin_map)

-- "A path, map or list closes at the next keyword"
unfoldable pub in_map : Line → Bool
in_map l = either (stands_in place.map_head l) (stands_in place.pin_list l)

-- what the lines above its Pin_list give; `order` is the table's order plus 1
unfoldable pub grid_in : pin_map.Map → List Line → pin_map.Map
grid_in m [] = m
grid_in m (l ∷ ls) = grid_in (provided stands_in place.map_head l then map_next (map_line_of l.content) m else m) ls

-- "one a line"
unfoldable pub pin_at : Line → List Line → List Named
pin_at l after = provided stands_in place.pin_list l then record { name = first_word (words_of l); line = l.line } ∷ [] else []

unfoldable pub map_of : Line → List Line → Map
map_of l body =
    record {
      name = argument_of l;
      line = l.line;
      order = (grid_in new_map body).order - 1;
      rows = (grid_in new_map body).rows;
      columns = (grid_in new_map body).columns;
      pins = gather pin_at body;
    }

unfoldable pub map_at : Line → List Line → List Map
map_at l after = provided opens_map l then map_of l (up_to in_map after) ∷ [] else []

-- ---- matrices

-- "R L G C"
unfoldable pub kind_of : ℕ → ℕ
kind_of key =
    provided eqb key resistance_matrix then resistance_kind else
    provided eqb key inductance_matrix then inductance_kind else
    provided eqb key conductance_matrix then conductance_kind else capacitance_kind

unfoldable pub opens_matrix_at : Line → Bool
opens_matrix_at l = both (either (eqb l.place place.section) (eqb l.place place.matrix)) (opens_matrix (key_of l))

-- a matrix goes up to "the first keyword after the matrix that is not [Row] or [Bandwidth]"
unfoldable pub in_matrix : Line → Bool
in_matrix l = both (eqb l.place place.matrix) (either (eqb (key_of l) plain) (is_row_or_bandwidth (key_of l)))

-- the integer after [Row] or [Bandwidth]
unfoldable pub given_by : Line → ℕ
given_by l = unwrap_or (whole_of (argument_of l).text) 0

unfoldable pub bandwidth_in : List Line → ℕ
bandwidth_in [] = 0
bandwidth_in (l ∷ ls) = provided eqb (key_of l) bandwidth then given_by l else bandwidth_in ls

-- the row of the next number: down the diagonal, else the same row
unfoldable pub next_row : ℕ → ℕ → ℕ
next_row form r = provided eqb form diagonal then r + 1 else r

-- "Diagonal_matrix: N numbers"; "row i has .. numbers, diagonal first": the numbers of a line, the first of them at (r, c)
unfoldable pub numbers_at : ℕ → ℕ → ℕ → List (List ℕ) → List Value
numbers_at form r c [] = []
numbers_at form r c (w ∷ ws) = record { row = r; column = c; word = word_in (number_of w) } ∷ numbers_at form (next_row form r) (c + 1) ws

-- "lines `column value`"
unfoldable pub sparse_at : ℕ → List (List ℕ) → Value
sparse_at r ws = record { row = r; column = unwrap_or (whole_of (first_of ws)) 0; word = word_in (number_of (second_of ws)) }

-- "Numbers may run over lines": the numbers of the lines, the next one at (r, c); [Row] i starts at (i, i)
unfoldable pub values_from : ℕ → ℕ → ℕ → List Line → List Value
values_from form r c [] = []
values_from form r c (l ∷ ls) =
    provided eqb (key_of l) row then values_from form (given_by l) (given_by l) ls else
    provided not (eqb (key_of l) plain) then values_from form r c ls else
    provided eqb form sparse then sparse_at r (words l.content) ∷ values_from form r c ls else
    numbers_at form r c (words l.content) ++
    values_from form (provided eqb form diagonal then r + length (words l.content) else r) (c + length (words l.content)) ls

-- the row that a line names, or the column of a Sparse_matrix
unfoldable pub named_by : ℕ → Line → ℕ
named_by form l =
    provided eqb (key_of l) row then given_by l else
    provided both (eqb form sparse) (eqb (key_of l) plain) then unwrap_or (whole_of (first_of (words l.content))) 0 else 0

unfoldable pub greatest_in : ℕ → List Line → ℕ
greatest_in form [] = 0
greatest_in form (l ∷ ls) = max (named_by form l) (greatest_in form ls)

-- "N is the conductor count": N numbers of a Diagonal_matrix, "[Row] 1 to N", "the greatest row or column named" of a Sparse_matrix
unfoldable pub conductors_in : ℕ → List Line → ℕ
conductors_in form body = provided eqb form diagonal then length (values_from form 1 1 body) else greatest_in form body

unfoldable pub matrix_of : Line → ℕ → List Line → Matrix
matrix_of l form body =
    record {
      kind = kind_of (key_of l);
      form = form;
      bandwidth = bandwidth_in body;
      conductors = conductors_in form body;
      values = values_from form 1 1 body;
      line = l.line;
    }

unfoldable pub matrix_at : Line → List Line → List Matrix
matrix_at l after = provided opens_matrix_at l then matrix_of l (form_of (argument_of l).text) (up_to in_matrix after) ∷ [] else []

-- ---- sections

unfoldable pub opens_section : Line → Bool
opens_section l = both (eqb l.place place.after) (eqb (key_of l) begin_icm_section)

unfoldable pub in_section : Line → Bool
in_section l = either (eqb l.place place.section_head) (either (eqb l.place place.section) (eqb l.place place.matrix))

unfoldable pub method_in : List Line → ℕ
method_in [] = 0
method_in (l ∷ ls) = provided eqb (key_of l) derivation_method then method_of (argument_of l).text else method_in ls

unfoldable pub section_of : Line → List Line → Section
section_of l body = record { name = argument_of l; line = l.line; method = method_in body; matrices = gather matrix_at body }

unfoldable pub section_at : Line → List Line → List Section
section_at l after = provided opens_section l then section_of l (up_to in_section after) ∷ [] else []

-- "N is the conductor count, the same for a section's matrices"
abbrev pub conductors_of : List Matrix → ℕ
conductors_of [] = 0
conductors_of (m ∷ ms) = m.conductors

-- ---- the whole

unfoldable pub document_in : List Line → Document
document_in ls =
    record {
      listed = gather listed_at ls;
      models = gather model_at ls;
      maps = gather map_at ls;
      sections = gather section_at ls;
    }

unfoldable pub document_of : List ℕ → Document
document_of t = document_in (significant t)
