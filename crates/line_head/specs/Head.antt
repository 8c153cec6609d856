-- Document 01, "Model": the lines of a model before its first keyword.
--
-- What is remembered of a head is the struct `Head` of src/lib.rt: `kind`, the number of the model's type plus 1, 0 while
-- it has not been given; and whether SGR and Ref_impedance have been read (`sgr`, `impedance`). What a line says is a
-- `HeadLine`: `says`, which of the three it is; whether its rest is `right`; whether its number is `formed` and `bounded`,
-- true of a line without one; and the `kind` that it names.
-- Assumes nothing.
use Rattle.std.specs.Prelude.{ℕ, ◌+◌, Bool, true, false, not, List, [], ◌∷◌, length, take, drop, eqb, is_some, Option}
use Prim.Native.Char.{code}
use Rattle.base.specs.If.{provided◌then◌else◌, both, either}
use Rattle.base.specs.Bytes.{bytes, is_before}
use Rattle.base.specs.Runs.{run, same}
use Rattle.base.specs.Broken.{Rule, ◌when◌}
use Rattle.base.specs.Refusal as refusal
use Rattle.lex_line.specs.Words.{words, first_of, second_of, has_equals, left_of, right_of}
use Rattle.lex_number.specs.Number.{number_of, is_formed, is_bounded}
use Rattle.lex_number.specs.Integer.{whole_of, is_whole_within}
use Rattle.line_head.specs.declared.Head.{Head}
use Rattle.line_head.specs.declared.HeadLine.{HeadLine}
use Rattle.table_layout.specs.Bounds.{most_ratio}
use Rattle.table_layout.specs.Codes.{slm_general, slm_quiescent, mlm}

-- what a line of the head says: which of the three it is, or none
abbrev pub says_nothing : ℕ
says_nothing = 0

abbrev pub says_model_type : ℕ
says_model_type = 1

abbrev pub says_ratio : ℕ
says_ratio = 2

abbrev pub says_impedance : ℕ
says_impedance = 3

-- "SLM_general, SLM_quiescent, MLM": the number in the table plus 1; 0 for any other word
unfoldable pub model_type_of : List ℕ → ℕ
model_type_of w =
    provided same w (bytes "SLM_general") then slm_general + 1 else
    provided same w (bytes "SLM_quiescent") then slm_quiescent + 1 else
    provided same w (bytes "MLM") then mlm + 1 else 0

-- a line that is known by its first word but has a wrong rest
unfoldable pub wrong_head_line : ℕ → HeadLine
wrong_head_line says = record { says = says; right = false; formed = true; bounded = true; kind = 0 }

-- "ICM_model_type (SLM_general, SLM_quiescent, MLM)"
unfoldable pub type_line : List (List ℕ) → HeadLine
type_line ws =
    provided both (eqb (length ws) 2) (not (eqb (model_type_of (second_of ws)) 0))
    then record { says = says_model_type; right = true; formed = true; bounded = true; kind = model_type_of (second_of ws) }
    else wrong_head_line says_model_type

-- how many bytes of a word come before its first colon
abbrev pub to_colon : List ℕ → ℕ
to_colon w = run (is_before (code ":")) w

unfoldable pub ratio_of : List ℕ → Option ℕ
ratio_of w = whole_of (take (to_colon w) w)

-- "`SGR n:1`, n 1 to 65,535"
unfoldable pub sgr_line : List (List ℕ) → HeadLine
sgr_line ws =
    provided both (eqb (length ws) 2) (same (drop (to_colon (second_of ws)) (second_of ws)) (bytes ":1"))
    then record { says = says_ratio; right = true; formed = is_some (ratio_of (second_of ws)); bounded = is_whole_within 1 most_ratio (ratio_of (second_of ws)); kind = 0 }
    else wrong_head_line says_ratio

-- "`Ref_impedance=` a number"
unfoldable pub impedance_line : List ℕ → HeadLine
impedance_line content =
    provided both (has_equals content) (both (eqb (length (left_of content)) 1) (eqb (length (right_of content)) 1))
    then record { says = says_impedance; right = true; formed = is_formed (number_of (first_of (right_of content))); bounded = is_bounded (number_of (first_of (right_of content))); kind = 0 }
    else wrong_head_line says_impedance

-- a line of the head is known by its first word; in the form with a `=`, the sign ends that word
unfoldable pub head_line_of : List ℕ → HeadLine
head_line_of content =
    provided same (first_of (words content)) (bytes "ICM_model_type") then type_line (words content) else
    provided same (first_of (words content)) (bytes "SGR") then sgr_line (words content) else
    provided same (first_of (left_of content)) (bytes "Ref_impedance") then impedance_line content else
    record { says = says_nothing; right = true; formed = true; bounded = true; kind = 0 }

-- each of the three may appear once; the head takes no other line
unfoldable pub is_head_out_of_order : HeadLine → Head → Bool
is_head_out_of_order l h =
    provided eqb l.says says_model_type then not (eqb h.kind 0) else
    provided eqb l.says says_ratio then h.sgr else
    provided eqb l.says says_impedance then h.impedance else true

-- "A line its place takes with a wrong rest is 11, repeated or out of order 12"; any other line is 12
abbrev pub head_rules : HeadLine → Head → List Rule
head_rules l h =
    refusal.argument when not l.right
    ∷ refusal.line when is_head_out_of_order l h
    ∷ refusal.number when not l.formed
    ∷ refusal.range when not l.bounded
    ∷ []

unfoldable pub head_next : HeadLine → Head → Head
head_next l h =
    record {
      kind = provided eqb l.says says_model_type then l.kind else h.kind;
      sgr = either (eqb l.says says_ratio) h.sgr;
      impedance = either (eqb l.says says_impedance) h.impedance;
    }

unfoldable pub new_head : Head
new_head = record { kind = 0; sgr = false; impedance = false }

-- "required for SLM_general .. before the model's first keyword, where one lacking is 9"
unfoldable pub head_lacks : Head → Bool
head_lacks h = either (eqb h.kind 0) (both (eqb h.kind (slm_general + 1)) (not h.sgr))
