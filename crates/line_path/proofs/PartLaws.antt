-- Laws of the parts of a line: the line itself is that of its definition, and if its rest is right, its name, its amount and
-- its unit are.
-- Assumes nothing.
use mathlib.Core.Path.{◌≡◌, refl, sym, ◌∙◌, ap, subst}
use mathlib.Core.Bool.{Bool, true, false, true≢false}
use mathlib.Core.List.{List}
use Prim.Native.Nat.{ℕ, suc, ◌+◌, ◌<◌}
use native.Mathlib.Nat.{zero-add}
use native.Mathlib.Omega.{arith}
use lib.ListN.{length, drop}
use lib.Dec.{eqb, ltb}
use borrow.Author.Tests.{eqb-true, ltb-true, ltb-false, not-false}
use Rattle.base.specs.If.{provided◌then◌else◌, either}
use Rattle.base.proofs.BrokenLaws.{Numbered, all_kept}
use Rattle.base.proofs.IfLaws.{if_true, if_false, by_cases, both_first, either_rest}
use Rattle.lex_line.specs.Words.{words, first_of, right_of, to_equals}
use Rattle.lex_line.specs.Way.Spans.{word_span, first_two_of}
use Rattle.lex_line.specs.declared.Span.{Span}
use Rattle.lex_line.proofs.WordLaws.{after_at, after_none, words_after}
use Rattle.line_path.specs.Path.{says_nothing, says_end, says_side, says_section, says_fork, says_endfork, saying_of, plain_line, names_one, is_mult, amount_of, is_section_line, line_saying, path_line_of, open_rules}
use Rattle.line_path.specs.Way.Section.{span_from, plain_parts, amount_in, amount_line, name_right, section_parts}
use Rattle.line_path.specs.Way.Parts.{named_parts, said_parts, parts_of, ParsesName, ParsesSection, ParsesLine}
use Rattle.line_path.specs.declared.Path.{Path}
use Rattle.line_path.specs.declared.PathLine.{PathLine}
use Rattle.line_path.specs.declared.PathParts.{PathParts}
use Rattle.line_path.specs.Way.Rule.{open_rule, path_rule}
use Rattle.line_path.proofs.SectionLaws.{section_two, section_right, section_wrong, section_line_lem}
use Rattle.line_path.proofs.DepthLaws.{open_kept}

-- ---- the second of two words

-- where there are two words, the second starts within the line
second_there : (s : List ℕ) → length (words s) ≡ 2 → (first_two_of s).second.start < length s
unfolding first_two_of
second_there s two =
    by_cases _ (ltb (word_span s (word_span s 0).end).start (length s))
    (λ (e : ltb (word_span s (word_span s 0).end).start (length s) ≡ true). ltb-true _ _ e)
    (λ (e : ltb (word_span s (word_span s 0).end).start (length s) ≡ false).
    let none : length (words_after s (word_span s 0).end) ≡ 0 = ap length (after_none s (word_span s 0).end (ltb-false _ _ e)) in
    by_cases _ (ltb (word_span s 0).start (length s))
    (λ (f : ltb (word_span s 0).start (length s) ≡ true).
    let one : length (words s) ≡ suc (length (words_after s (word_span s 0).end)) = ap length (after_at s 0 (ltb-true _ _ f)) in
    absurd (omega arith))
    (λ (f : ltb (word_span s 0).start (length s) ≡ false).
    let zero : length (words s) ≡ 0 = ap length (after_none s 0 (ltb-false _ _ f)) in
    absurd (omega arith)))

-- ---- the line, and what it says

module _ (says : ℕ) (content : List ℕ) where
  abbrev alone : Bool
  alone = either (eqb says says_fork) (eqb says says_endfork)

  abbrev named : Bool
  named = either (eqb says says_end) (eqb says says_side)

  said_line : (said_parts says content).line ≡ line_saying says content
  unfolding said_parts line_saying plain_parts named_parts
  said_line =
      by_cases _ (eqb says says_section)
      (λ (e : eqb says says_section ≡ true). ap (λ (r : PathParts). r.line) (if_true _ _ e) ∙ section_line_lem content ∙ sym (if_true _ _ e))
      (λ (e : eqb says says_section ≡ false).
      by_cases _ alone
      (λ (f : alone ≡ true). ap (λ (r : PathParts). r.line) (if_false _ _ e ∙ if_true _ _ f) ∙ sym (if_false _ _ e ∙ if_true _ _ f))
      (λ (f : alone ≡ false).
      by_cases _ named
      (λ (g : named ≡ true). ap (λ (r : PathParts). r.line) (if_false _ _ e ∙ if_false _ _ f ∙ if_true _ _ g) ∙ sym (if_false _ _ e ∙ if_false _ _ f ∙ if_true _ _ g))
      (λ (g : named ≡ false). ap (λ (r : PathParts). r.line) (if_false _ _ e ∙ if_false _ _ f ∙ if_false _ _ g) ∙ sym (if_false _ _ e ∙ if_false _ _ f ∙ if_false _ _ g))))

  section_says : (section_parts content).line.says ≡ says_section
  unfolding amount_line plain_parts plain_line
  section_says =
      by_cases _ (is_section_line content)
      (λ (e : is_section_line content ≡ true). ap (λ (r : PathParts). r.line.says) (section_right content e))
      (λ (e : is_section_line content ≡ false). ap (λ (r : PathParts). r.line.says) (section_wrong content e))

  -- a line that says something says what was asked for
  said_says : ((said_parts says content).line.says ≡ says_nothing → ⊥) → (said_parts says content).line.says ≡ says
  unfolding said_parts plain_parts named_parts plain_line
  said_says some =
      by_cases _ (eqb says says_section)
      (λ (e : eqb says says_section ≡ true). ap (λ (r : PathParts). r.line.says) (if_true _ _ e) ∙ section_says ∙ sym (eqb-true _ _ e))
      (λ (e : eqb says says_section ≡ false).
      by_cases _ alone
      (λ (f : alone ≡ true). ap (λ (r : PathParts). r.line.says) (if_false _ _ e ∙ if_true _ _ f))
      (λ (f : alone ≡ false).
      by_cases _ named
      (λ (g : named ≡ true). ap (λ (r : PathParts). r.line.says) (if_false _ _ e ∙ if_false _ _ f ∙ if_true _ _ g))
      (λ (g : named ≡ false). absurd (some (ap (λ (r : PathParts). r.line.says) (if_false _ _ e ∙ if_false _ _ f ∙ if_false _ _ g))))))

-- ---- its parts

module _ (content : List ℕ) where
  parts_line_lem : (parts_of content).line ≡ path_line_of content
  unfolding parts_of path_line_of
  parts_line_lem = said_line (saying_of (first_of (words content))) content

  -- by what the line says
  parts_said : (n : ℕ) → (n ≡ says_nothing → ⊥) → (parts_of content).line.says ≡ n → parts_of content ≡ said_parts n content
  unfolding parts_of
  parts_said n some e =
      let s : (said_parts (saying_of (first_of (words content))) content).line.says ≡ saying_of (first_of (words content)) =
      said_says (saying_of (first_of (words content))) content (λ (z : (said_parts (saying_of (first_of (words content))) content).line.says ≡ says_nothing). some (sym e ∙ z)) in
      ap (λ (m : ℕ). said_parts m content) (sym s ∙ e)

  said_end : said_parts says_end content ≡ named_parts says_end content
  unfolding said_parts either provided◌then◌else◌
  said_end = refl

  said_side : said_parts says_side content ≡ named_parts says_side content
  unfolding said_parts either provided◌then◌else◌
  said_side = refl

  said_section : said_parts says_section content ≡ section_parts content
  unfolding said_parts provided◌then◌else◌
  said_section = refl

  whole_span : (w : Span) → w ≡ span_from 0 w
  whole_span w = λ i. record { start = sym (zero-add w.start) i; end = sym (zero-add w.end) i }

  -- a name
  names_second : (says : ℕ) → (named_parts says content).line.right ≡ true → ParsesName content (named_parts says content)
  unfolding named_parts plain_line names_one
  names_second says e =
      record {
        name_is = record { span_is = whole_span (first_two_of content).second; there = second_there content (eqb-true _ _ (both_first _ _ e)) };
        no_amount = refl;
        no_mult = refl;
      }

  name_told : (says : ℕ) → parts_of content ≡ named_parts says content → (parts_of content).line.right ≡ true → ParsesName content (parts_of content)
  name_told says e h =
      subst (ParsesName content) (sym e) (names_second says (sym (ap (λ (r : PathParts). r.line.right) e) ∙ h))

  parts_named : (parts_of content).line.right ≡ true → either (eqb (parts_of content).line.says says_end) (eqb (parts_of content).line.says says_side) ≡ true →
      ParsesName content (parts_of content)
  parts_named h e =
      by_cases _ (eqb (parts_of content).line.says says_end)
      (λ (f : eqb (parts_of content).line.says says_end ≡ true).
      name_told says_end (parts_said says_end (λ (z : says_end ≡ says_nothing). omega arith) (eqb-true _ _ f) ∙ said_end) h)
      (λ (f : eqb (parts_of content).line.says says_end ≡ false).
      name_told says_side (parts_said says_side (λ (z : says_side ≡ says_nothing). omega arith) (eqb-true _ _ (sym (either_rest _ _ f) ∙ e)) ∙ said_side) h)

  -- a Section
  right_section : (section_parts content).line.right ≡ true → is_section_line content ≡ true
  unfolding plain_parts plain_line
  right_section h =
      by_cases _ (is_section_line content) (λ (e : is_section_line content ≡ true). e)
      (λ (e : is_section_line content ≡ false). absurd (true≢false (sym h ∙ ap (λ (r : PathParts). r.line.right) (section_wrong content e))))

  amount_section : is_section_line content ≡ true → ParsesSection content (amount_line (is_mult content) (first_of (right_of content)) (name_right content))
  unfolding amount_line amount_in amount_of right_of
  amount_section e =
      record { name_is = record { span_is = refl; there = second_there (drop (to_equals content + 1) content) (section_two content e) }; amount_is = refl; mult_is = refl }

  parts_section : (parts_of content).line.right ≡ true → (parts_of content).line.says ≡ says_section → ParsesSection content (parts_of content)
  parts_section h e =
      let is : parts_of content ≡ section_parts content = parts_said says_section (λ (z : says_section ≡ says_nothing). omega arith) e ∙ said_section in
      let right : is_section_line content ≡ true = right_section (sym (ap (λ (r : PathParts). r.line.right) is) ∙ h) in
      subst (ParsesSection content) (sym (is ∙ section_right content right)) (amount_section right)

  pub parses : (r : PathParts) → r ≡ parts_of content → ParsesLine content r
  parses r e = subst (ParsesLine content) (sym e) (record { line_is = parts_line_lem; named = parts_named; section = parts_section })

-- ---- a line that breaks no rule

module _ (l : PathLine) (p : Path) (steps : ℕ) where
  numbered : Numbered (open_rules l p steps)
  numbered = (omega arith, (omega arith, (omega arith, (omega arith, (omega arith, (omega arith, tt))))))

  -- if it is a step, its rest is right
  pub right_kept : path_rule l p steps ≡ 0 → (l.says ≡ says_side → ⊥) → l.right ≡ true
  unfolding open_rule
  right_kept kept n = not-false l.right (all_kept (open_rules l p steps) numbered (open_kept l p steps kept n) 1)
