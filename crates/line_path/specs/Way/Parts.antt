-- A line of a path with its parts, each read once, and what is known of them: the name, the amount, and whether that is a
-- Mult. They are told only of a line whose rest is right.
-- Assumes nothing.
use Rattle.std.specs.Prelude.{ℕ, ◌+◌, ◌<◌, ◌≡◌, true, false, List, length, drop, eqb}
use Rattle.base.specs.If.{provided◌then◌else◌, either}
use Rattle.lex_line.specs.Words.{words, first_of, to_equals}
use Rattle.lex_line.specs.Way.Spans.{first_two_of}
use Rattle.lex_line.specs.declared.Span.{Span}
use Rattle.line_path.specs.Path.{
  says_nothing,
  says_end,
  says_side,
  says_section,
  says_fork,
  says_endfork,
  saying_of,
  plain_line,
  names_one,
  is_mult,
  amount_of,
  path_line_of,
}
use Rattle.line_path.specs.Way.Section.{span_from, plain_parts, section_parts}
use Rattle.line_path.specs.declared.PathParts.{PathParts}

-- "`Model_pinmap name`", "`Side name`"
unfoldable pub named_parts : ℕ → List ℕ → PathParts
named_parts says content =
    record { line = plain_line says (names_one (words content)); name = (first_two_of content).second; amount = 0; mult = false }

unfoldable pub said_parts : ℕ → List ℕ → PathParts
said_parts says content =
    provided eqb says says_section then section_parts content else
    provided either (eqb says says_fork) (eqb says says_endfork) then plain_parts says (eqb (length (words content)) 1) else
    provided either (eqb says says_end) (eqb says says_side) then named_parts says content else plain_parts says_nothing true

unfoldable pub parts_of : List ℕ → PathParts
parts_of content = said_parts (saying_of (first_of (words content))) content

-- the second word of what stands from `from` on
pub record SecondWord (content : List ℕ) (from : ℕ) (name : Span) : Type 0 where
  pub span_is : name ≡ span_from from (first_two_of (drop from content)).second
  pub there : (first_two_of (drop from content)).second.start < length (drop from content)

-- a line with a name has no amount
pub record ParsesName (content : List ℕ) (r : PathParts) : Type 0 where
  pub name_is : SecondWord content 0 r.name
  pub no_amount : r.amount ≡ 0
  pub no_mult : r.mult ≡ false

pub record ParsesSection (content : List ℕ) (r : PathParts) : Type 0 where
  pub name_is : SecondWord content (to_equals content + 1) r.name
  pub amount_is : r.amount ≡ amount_of content
  pub mult_is : r.mult ≡ is_mult content

-- the line is read, and if its rest is right, its parts are
pub record ParsesLine (content : List ℕ) (r : PathParts) : Type 0 where
  pub line_is : r.line ≡ path_line_of content
  pub named : r.line.right ≡ true → either (eqb r.line.says says_end) (eqb r.line.says says_side) ≡ true → ParsesName content r
  pub section : r.line.right ≡ true → r.line.says ≡ says_section → ParsesSection content r
