-- A Section line as the code reads it, with its parts: first the words before and after its `=`, then its unit and its
-- amount. `SectionLaws` shows that this is the line that `Path` defines.
-- Assumes nothing.
use Rattle.std.specs.Prelude.{ℕ, ◌+◌, Bool, true, false, not, List, length, drop, eqb, unwrap_or}
use Rattle.base.specs.If.{provided◌then◌else◌, both}
use Rattle.base.specs.Bytes.{bytes}
use Rattle.base.specs.Runs.{same}
use Rattle.lex_line.specs.Words.{first_of, second_of, left_of, right_of, has_equals, to_equals}
use Rattle.lex_line.specs.Way.Spans.{first_two_of}
use Rattle.lex_line.specs.declared.Span.{Span}
use Rattle.lex_number.specs.Number.{number_of, word_in}
use Rattle.lex_number.specs.Integer.{whole_of}
use Rattle.line_argument.specs.Argument.{is_reserved}
use Rattle.line_path.specs.Path.{says_section, plain_line, amount_formed, amount_bounded}
use Rattle.line_path.specs.declared.PathParts.{PathParts}

abbrev pub no_span : Span
no_span = record { start = 0; end = 0 }

-- a span of what stands from `from` on, as a span of the whole
abbrev pub span_from : ℕ → Span → Span
span_from from word = record { start = from + word.start; end = from + word.end }

-- a line of which no part is told
unfoldable pub plain_parts : ℕ → Bool → PathParts
plain_parts says right = record { line = plain_line says right; name = no_span; amount = 0; mult = false }

-- a Section line whose rest is not right
abbrev pub wrong_section : PathParts
wrong_section = plain_parts says_section false

unfoldable pub amount_in : Bool → List ℕ → ℕ
amount_in mult amount = provided mult then unwrap_or (whole_of amount) 0 else word_in (number_of amount)

-- a line whose rest is right, by its amount, a Mult or a Len
unfoldable pub amount_line : Bool → List ℕ → Span → PathParts
amount_line mult amount name =
    record {
      line = record { says = says_section; right = true; formed = amount_formed mult amount; bounded = amount_bounded mult amount };
      name = name;
      amount = amount_in mult amount;
      mult = mult;
    }

unfoldable pub unit_line : List ℕ → List ℕ → Span → PathParts
unit_line unit amount name =
    provided same unit (bytes "Mult") then amount_line true amount name else
    provided same unit (bytes "Len") then amount_line false amount name else wrong_section

-- two words before the sign, and a number and a name after it
unfoldable pub is_parted : List (List ℕ) → List (List ℕ) → Bool
is_parted left right =
    both (eqb (length left) 2) (both (eqb (length right) 2) (not (is_reserved (second_of right))))

unfoldable pub parts_line : List (List ℕ) → List (List ℕ) → Span → PathParts
parts_line left right name =
    provided is_parted left right then unit_line (second_of left) (first_of right) name else wrong_section

-- the second word after the sign
abbrev pub name_right : List ℕ → Span
name_right content =
    span_from (to_equals content + 1) (first_two_of (drop (to_equals content + 1) content)).second

unfoldable pub section_parts : List ℕ → PathParts
section_parts content =
    provided has_equals content then parts_line (left_of content) (right_of content) (name_right content) else wrong_section
