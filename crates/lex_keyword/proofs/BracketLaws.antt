-- Laws of brackets, by which the code of the bracket reader meets its definition.
-- Assumes nothing.
use mathlib.Core.Path.{◌≡◌, sym, ◌∙◌, ap}
use mathlib.Core.Bool.{Bool, true, false, not}
use mathlib.Core.List.{List}
use Prim.Native.Nat.{ℕ, ◌+◌, ◌-◌, ◌≤◌, ◌<◌}
use native.Mathlib.Nat.{zero-add}
use native.Mathlib.Omega.{arith}
use lib.ListN.{length, take, drop, get_or}
use lib.Dec.{eqb}
use borrow.Author.Tests.{eq-eqb, ne_eqb, lt-ltb, le-ltb, ltb-true, not-true, not-false}
use Rattle.base.specs.If.{provided◌then◌else◌}
use Rattle.base.specs.Bytes.{is_blank, is_letter, is_before}
use Rattle.base.specs.Way.Class.{run_end}
use Rattle.base.specs.Runs.{run}
use Rattle.base.proofs.IfLaws.{if_true, if_false, both_rest, both_not_left, both_first, not_via, not_not_via}
use Rattle.lex_keyword.specs.Names.{keyword_of, is_later}
use Rattle.lex_keyword.specs.Bracket.{is_open, is_not_closing, is_good_name, parted, are_good_words, name_length, name_of, is_closed, is_good_bracket, argument_at, named_as, bracket_of}
use Rattle.lex_keyword.specs.Way.Reading.{closes_at, says_name}
use Rattle.lex_keyword.specs.declared.Bracket.{Bracket}
use Rattle.lex_keyword.specs.declared.Bracket.TheVariants.{Plain, Indented, Bad, Unknown, Later, Keyword}

-- t says whether the first byte of a name is a letter
module _ (name : List ℕ) (b : ℕ) (t : Bool) (there : b ≡ get_or name 0 0) (told : t ≡ is_letter b) where
  pub name_bad : not t ≡ true → false ≡ is_good_name name
  unfolding is_good_name
  name_bad e = sym (both_not_left _ _ (ap is_letter (sym there) ∙ sym told ∙ not-true t e))

  pub name_words : (r : Bool) → not t ≡ false → r ≡ are_good_words (parted name) → r ≡ is_good_name name
  unfolding is_good_name
  name_words r e h = h ∙ sym (both_rest _ _ (ap is_letter (sym there) ∙ sym told ∙ not-false t e))

pub named_unknown : (key argument : ℕ) → key ≡ 40 → Unknown ≡ named_as key argument
unfolding named_as
named_unknown key argument h = sym (if_true _ _ (eq-eqb key 40 h))

-- t says whether the keyword is a later one
module _ (key argument : ℕ) (t : Bool) (h : key ≡ 40 → ⊥) (told : t ≡ is_later key) where
  pub named_later : t ≡ true → Later ≡ named_as key argument
  unfolding named_as
  named_later e = sym (if_false _ _ (ne_eqb key 40 h) ∙ if_true _ _ (sym told ∙ e))

  pub named_keyword : t ≡ false → Keyword key argument ≡ named_as key argument
  unfolding named_as
  named_keyword e = sym (if_false _ _ (ne_eqb key 40 h) ∙ if_false _ _ (sym told ∙ e))

-- t says whether the name is good
module _ (name : List ℕ) (argument : ℕ) (t : Bool) (told : t ≡ is_good_name name) where
  pub says_bad : not t ≡ true → Bad ≡ says_name name argument
  unfolding says_name
  says_bad e = sym (if_true _ _ (ap not (sym told) ∙ e))

  pub says_key : (key : ℕ) (r : Bracket) → not t ≡ false → key ≡ keyword_of name → r ≡ named_as key argument → r ≡ says_name name argument
  unfolding says_name
  says_key key r e k h = h ∙ ap (λ (n : ℕ). named_as n argument) k ∙ sym (if_false _ _ (ap not (sym told) ∙ e))

-- t says whether a `]` closes the bracket there
module _ (content : List ℕ) (end : ℕ) (t : Bool) (closed : t ≡ closes_at content end) (e : not t ≡ false) where
  pub closes_before : end < length content
  unfolding closes_at
  closes_before = ltb-true end (length content) (both_first _ _ (sym closed ∙ not-false t e))

  pub closes_within : end ≤ length content
  closes_within = omega (arith, closes_before)

-- what the reader finds at the front: the count of blanks, and the byte after them
module _ (content : List ℕ) (front first : ℕ) (told : front ≡ run_end is_blank content 0) (there : first ≡ get_or content front 0) where
  front_run : front ≡ run is_blank content
  front_run = told ∙ zero-add (run is_blank content)

  open_is : is_open (get_or content (run is_blank content) 0) ≡ eqb first 91
  unfolding is_open
  open_is = rw (there, front_run)

  pub reads_plain : (first ≡ 91 → ⊥) → Plain ≡ bracket_of content
  unfolding bracket_of
  reads_plain h = sym (if_true _ _ (not_via (open_is ∙ ne_eqb first 91 h)))

  module _ (opens : first ≡ 91) where
    open_true : not (is_open (get_or content (run is_blank content) 0)) ≡ false
    open_true = not_not_via (open_is ∙ eq-eqb first 91 opens)

    pub reads_indented : 0 < front → Indented ≡ bracket_of content
    unfolding bracket_of
    reads_indented h = sym (if_false _ _ open_true ∙ if_true _ _ (lt-ltb 0 (run is_blank content) (rw front_run at h)))

    -- a `[` in column 1
    pub opens_column : front ≤ 0 → (0 ≡ run_end is_blank content 0) × (91 ≡ get_or content 0 0)
    opens_column h =
        let z : front ≡ 0 = omega arith in
        (sym z ∙ told, sym opens ∙ there ∙ ap (λ (i : ℕ). get_or content i 0) z)

    -- and the position of the first `]` after it
    module _ (column : front ≤ 0) (end : ℕ) (t : Bool) (ends : end ≡ run_end (is_before 93) content 1) (closed : t ≡ closes_at content end) where
      reads_column : bracket_of content ≡ (provided not (is_good_bracket content) then Bad else named_as (keyword_of (name_of content)) (argument_at content))
      unfolding bracket_of
      reads_column = if_false _ _ open_true ∙ if_false _ _ (le-ltb 0 (run is_blank content) (rw front_run at column))

      end_is : end ≡ 1 + name_length content
      unfolding name_length is_not_closing is_before
      end_is = ends

      closed_is : is_closed content ≡ t
      unfolding is_closed closes_at
      closed_is =
          let a : name_length content + 1 ≡ end = omega (arith, end_is) in
          let b : name_length content + 2 ≡ end + 1 = omega (arith, end_is) in
          rw (a, b) (sym closed)

      pub reads_bad : not t ≡ true → Bad ≡ bracket_of content
      unfolding is_good_bracket
      reads_bad e = sym (reads_column ∙ if_true _ _ (not_via (both_not_left _ _ (closed_is ∙ not-true t e))))

      good_is : not t ≡ false → is_good_bracket content ≡ is_good_name (name_of content)
      unfolding is_good_bracket
      good_is e = both_rest _ _ (closed_is ∙ not-false t e)

      name_is : name_of content ≡ take (end - 1) (drop 1 content)
      unfolding name_of
      name_is =
          let size : name_length content ≡ end - 1 = omega (arith, end_is) in
          rw size

      argument_is : argument_at content ≡ run_end is_blank content (end + 1)
      unfolding argument_at
      argument_is =
          let past : name_length content + 2 ≡ end + 1 = omega (arith, end_is) in
          rw past

      pub reads_name : (argument : ℕ) (r : Bracket) → not t ≡ false → argument ≡ run_end is_blank content (end + 1) → r ≡ says_name (take (end - 1) (drop 1 content)) argument → r ≡ bracket_of content
      unfolding says_name
      reads_name argument r e starts says = says ∙ sym (reads_column ∙ rw (good_is e, name_is, argument_is, starts))
