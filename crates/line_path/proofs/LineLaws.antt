-- Laws of the lines of a path: each reader, making one test after another, returns what its definition gives.
-- Assumes nothing.
use mathlib.Core.Path.{◌≡◌, sym, ◌∙◌, ap}
use mathlib.Core.Bool.{Bool, true, false, not}
use mathlib.Core.List.{List}
use Prim.Native.Nat.{ℕ}
use native.Mathlib.Omega.{arith}
use lib.Dec.{eqb}
use borrow.Author.Tests.{ne_eqb}
use Rattle.base.specs.If.{either}
use Rattle.base.proofs.IfLaws.{if_true, if_false, both_rest, both_not_left}
use Rattle.lex_line.specs.Words.{words}
use Rattle.lex_line.specs.Way.Spans.{first_two_of, marked_by}
use Rattle.lex_line.specs.declared.FirstTwo.{FirstTwo}
use Rattle.lex_line.proofs.WordLaws.{first_marked, second_marked}
use Rattle.lex_line.proofs.FormLaws.{counted, counted_not, count_tells}
use Rattle.line_argument.specs.Argument.{is_reserved}
use Rattle.line_path.specs.Path.{says_nothing, says_end, says_side, says_section, says_fork, says_endfork, saying_of, plain_line, names_one}
use Rattle.line_path.specs.Way.Section.{plain_parts}
use Rattle.line_path.specs.Way.Parts.{named_parts, said_parts, parts_of}
use Rattle.line_path.specs.declared.PathParts.{PathParts}

module _ (content : List ℕ) (few : FirstTwo) (told : few ≡ first_two_of content) where
  -- ---- a name

  pub names_none : (few.count ≡ 2 → ⊥) → false ≡ names_one (words content)
  unfolding names_one
  names_none n = sym (both_not_left _ _ (counted_not content few told 2 (omega arith) n))

  pub names_word : (w : List ℕ) (t : Bool) → few.count ≡ 2 → w ≡ marked_by content few.second → t ≡ is_reserved w → not t ≡ names_one (words content)
  unfolding names_one
  names_word w t two there h =
      ap not (h ∙ ap is_reserved (there ∙ second_marked content few told)) ∙ sym (both_rest _ _ (counted content few told 2 (omega arith) two))

  -- ---- a line by what it says

  pub named_told : (says : ℕ) (right : Bool) → right ≡ names_one (words content) →
      record { line = record { says = says; right = right; formed = true; bounded = true }; name = few.second; amount = 0; mult = false } ≡ named_parts says content
  unfolding named_parts plain_line
  named_told says right k =
      λ i. record { line = record { says = says; right = k i; formed = true; bounded = true }; name = (told i).second; amount = 0; mult = false }

  module _ (says : ℕ) (n : says ≡ says_section → ⊥) (a : Bool) (alone : a ≡ either (eqb says says_fork) (eqb says says_endfork)) where
    pub says_alone : (r : PathParts) → a ≡ true → r ≡ plain_parts says (eqb few.count 1) → r ≡ said_parts says content
    unfolding said_parts
    says_alone r e h =
        h ∙ ap (plain_parts says) (count_tells content few told 1 (omega arith)) ∙ sym (if_false _ _ (ne_eqb says says_section n) ∙ if_true _ _ (sym alone ∙ e))

    module _ (other : a ≡ false) (b : Bool) (named : b ≡ either (eqb says says_end) (eqb says says_side)) where
      pub says_name_lem : (r : PathParts) → b ≡ true → r ≡ named_parts says content → r ≡ said_parts says content
      unfolding said_parts
      says_name_lem r e h = h ∙ sym (if_false _ _ (ne_eqb says says_section n) ∙ if_false _ _ (sym alone ∙ other) ∙ if_true _ _ (sym named ∙ e))

      pub says_nothing_lem : (r : PathParts) → b ≡ false → r ≡ plain_parts says_nothing true → r ≡ said_parts says content
      unfolding said_parts
      says_nothing_lem r e h = h ∙ sym (if_false _ _ (ne_eqb says says_section n) ∙ if_false _ _ (sym alone ∙ other) ∙ if_false _ _ (sym named ∙ e))

  pub line_told : (w : List ℕ) (says : ℕ) (r : PathParts) → w ≡ marked_by content few.first → says ≡ saying_of w → r ≡ said_parts says content → r ≡ parts_of content
  unfolding parts_of
  line_told w says r there k h = h ∙ ap (λ (n : ℕ). said_parts n content) (k ∙ ap saying_of (there ∙ first_marked content few told))
