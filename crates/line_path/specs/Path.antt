-- Document 01, "Paths": "End, items, end", line by line.
--
-- What is remembered of a path is the struct `Path` of src/lib.rt: its `stage`, one of the four below; `depth`, how many
-- fork blocks are open; `ended`, whether the end of the innermost block has been read, so that only its Endfork may come;
-- and `side`, whether the next line may be a Side. What a line says is a `PathLine`: `says`, which of the five it is;
-- whether its rest is `right`; and whether its number is `formed` and `bounded`, true of a line without one.
-- Assumes nothing.
use Rattle.std.specs.Prelude.{ℕ, ◌+◌, ◌-◌, ◌%◌, Bool, true, false, not, List, [], ◌∷◌, length, leb, ltb, eqb, is_some, unwrap_or, Ok, Err}
use Rattle.table_layout.specs.Bounds.{deepest, most_steps, most_mult}
use Rattle.base.specs.If.{provided◌then◌else◌, both, either}
use Rattle.base.specs.Bytes.{bytes}
use Rattle.base.specs.Runs.{same}
use Rattle.base.specs.Broken.{Rule, ◌when◌}
use Rattle.base.specs.Refusal as refusal
use Rattle.lex_line.specs.Words.{words, first_of, second_of, has_equals, left_of, right_of}
use Rattle.lex_number.specs.Number.{number_of, is_formed, word_in, Number}
use Rattle.lex_number.specs.Integer.{whole_of, is_whole_within}
use Rattle.lex_number.specs.ValueWord.{zero_word}
use Rattle.lex_number.specs.declared.NumberError.TheVariants.{Malformed, Range}
use Rattle.line_argument.specs.Argument.{is_reserved}
use Rattle.line_path.specs.declared.Path.{Path}
use Rattle.line_path.specs.declared.PathLine.{PathLine}

-- what a line of a path says
abbrev pub says_nothing : ℕ
says_nothing = 0

-- Model_pinmap
abbrev pub says_end : ℕ
says_end = 1

abbrev pub says_side : ℕ
says_side = 2

abbrev pub says_section : ℕ
says_section = 3

abbrev pub says_fork : ℕ
says_fork = 4

abbrev pub says_endfork : ℕ
says_endfork = 5

unfoldable pub saying_of : List ℕ → ℕ
saying_of w =
    provided same w (bytes "Section") then says_section else
    provided same w (bytes "Fork") then says_fork else
    provided same w (bytes "Endfork") then says_endfork else
    provided same w (bytes "Model_pinmap") then says_end else
    provided same w (bytes "Side") then says_side else says_nothing

unfoldable pub plain_line : ℕ → Bool → PathLine
plain_line says right = record { says = says; right = right; formed = true; bounded = true }

-- "`Model_pinmap name`", "`Side name`": one more word, which is not reserved
unfoldable pub names_one : List (List ℕ) → Bool
names_one ws = both (eqb (length ws) 2) (not (is_reserved (second_of ws)))

-- "Len=v name (v above zero)": "Zero is 14 only as a Len". A word that is no number is 13, and not 14
abbrev pub is_length : Number → Bool
is_length (Ok w) = both (not (eqb w zero_word)) (eqb (w % 2) 0)
is_length (Err Malformed) = true
is_length (Err Range) = false

-- "`Section Mult=n name`, `Section Len=v name`"
unfoldable pub is_mult : List ℕ → Bool
is_mult content = same (second_of (left_of content)) (bytes "Mult")

-- "amount: Mult, the Len value word"
unfoldable pub amount_of : List ℕ → ℕ
amount_of content =
    provided is_mult content then unwrap_or (whole_of (first_of (right_of content))) 0 else word_in (number_of (first_of (right_of content)))

unfoldable pub is_section_line : List ℕ → Bool
is_section_line content =
    both (has_equals content)
    (both (both (eqb (length (left_of content)) 2) (eqb (length (right_of content)) 2))
    (both (either (is_mult content) (same (second_of (left_of content)) (bytes "Len"))) (not (is_reserved (second_of (right_of content))))))

unfoldable pub amount_formed : Bool → List ℕ → Bool
amount_formed mult amount = provided mult then is_some (whole_of amount) else is_formed (number_of amount)

unfoldable pub amount_bounded : Bool → List ℕ → Bool
amount_bounded mult amount = provided mult then is_whole_within 1 most_mult (whole_of amount) else is_length (number_of amount)

unfoldable pub section_line : List ℕ → PathLine
section_line content =
    provided is_section_line content
    then record { says = says_section; right = true; formed = amount_formed (is_mult content) (first_of (right_of content)); bounded = amount_bounded (is_mult content) (first_of (right_of content)) }
    else plain_line says_section false

unfoldable pub line_saying : ℕ → List ℕ → PathLine
line_saying says content =
    provided eqb says says_section then section_line content else
    provided either (eqb says says_fork) (eqb says says_endfork) then plain_line says (eqb (length (words content)) 1) else
    provided either (eqb says says_end) (eqb says says_side) then plain_line says (names_one (words content)) else plain_line says_nothing true

unfoldable pub path_line_of : List ℕ → PathLine
path_line_of content = line_saying (saying_of (first_of (words content))) content

-- the stages of a path: before its first end, before its first Section, among its items, after its closing end
abbrev pub starting : ℕ
starting = 0

abbrev pub started : ℕ
started = 1

abbrev pub items : ℕ
items = 2

abbrev pub closed : ℕ
closed = 3

unfoldable pub new_path : Path
new_path = record { stage = starting; depth = 0; ended = false; side = false }

-- "15 FORK: nesting over 8, Endfork with none open"
unfoldable pub is_bad_fork : PathLine → Path → Bool
is_bad_fork l p =
    either (both (eqb l.says says_fork) (leb deepest p.depth)) (both (eqb l.says says_endfork) (eqb p.depth 0))

-- "perhaps with `Side name` as the next line read"; "The first item is a Section"; "perhaps one end as last"
unfoldable pub is_path_out_of_order : PathLine → Path → Bool
is_path_out_of_order l p =
    provided eqb l.says says_side then not p.side else
    provided eqb l.says says_section then either (eqb p.stage starting) p.ended else
    provided eqb l.says says_fork then either (ltb p.stage items) p.ended else
    provided eqb l.says says_end then either (eqb p.stage started) p.ended else
    provided eqb l.says says_endfork then false else true

-- of the lines that a path takes, all but Side are steps
unfoldable pub is_step_line : PathLine → Bool
is_step_line l = not (eqb l.says says_side)

-- "15 .. goes before 9, 11 and 12"
abbrev pub open_rules : PathLine → Path → ℕ → List Rule
open_rules l p steps =
    refusal.fork when is_bad_fork l p
    ∷ refusal.argument when not l.right
    ∷ refusal.line when is_path_out_of_order l p
    ∷ refusal.number when not l.formed
    ∷ refusal.range when not l.bounded
    ∷ refusal.limit when both (is_step_line l) (leb most_steps steps)
    ∷ []

-- "The end at depth 0 closes the path": only its Side may follow
abbrev pub closed_rules : PathLine → Path → List Rule
closed_rules l p =
    provided both (eqb l.says says_side) p.side
    then refusal.argument when not l.right ∷ []
    else refusal.line when true ∷ []

abbrev pub path_rules : PathLine → Path → ℕ → List Rule
path_rules l p steps = provided eqb p.stage closed then closed_rules l p else open_rules l p steps

-- the path after an end: its first end, its closing end, or the end of a fork block
unfoldable pub with_end : Path → Path
with_end p =
    provided eqb p.stage starting then record { stage = started; depth = p.depth; ended = false; side = true } else
    provided eqb p.depth 0 then record { stage = closed; depth = 0; ended = false; side = true } else
    record { stage = items; depth = p.depth; ended = true; side = true }

unfoldable pub path_next : PathLine → Path → Path
path_next l p =
    provided eqb l.says says_end then with_end p else
    provided eqb l.says says_section then record { stage = items; depth = p.depth; ended = false; side = false } else
    provided eqb l.says says_fork then record { stage = items; depth = p.depth + 1; ended = false; side = false } else
    provided eqb l.says says_endfork then record { stage = items; depth = p.depth - 1; ended = false; side = false } else
    record { stage = p.stage; depth = p.depth; ended = p.ended; side = false }

-- "closing with one open" is 15
unfoldable pub path_open : Path → Bool
path_open p = ltb 0 p.depth

-- the first end, the first Section or the last end is missing when a keyword closes the path, which is 9
unfoldable pub path_lacks : Path → Bool
path_lacks p = not (eqb p.stage closed)
