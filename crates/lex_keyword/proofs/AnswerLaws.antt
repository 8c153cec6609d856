-- What callers may conclude from a `Bracket`, and that no two keywords have the same number.
-- Assumes nothing.
use mathlib.Core.Path.{◌≡◌, refl, sym, ◌∙◌, ap}
use mathlib.Core.Bool.{Bool, true, false, not, true≢false}
use mathlib.Core.List.{List, [], ◌∷◌, map}
use Prim.Native.Nat.{ℕ, suc, ◌+◌, ◌≤◌, ◌<◌, zero-le, suc-le-suc}
use native.Mathlib.Omega.{arith}
use lib.ListN.{length, drop, length-drop}
use lib.Dec.{eqb, ltb}
use borrow.Author.Tests.{eqb-false, ltb-true, ltb-false, not-true, not-false}
use Rattle.base.specs.If.{provided◌then◌else◌, both}
use Rattle.base.specs.Bytes.{is_blank, small, is_capital, within}
use Rattle.base.specs.Runs.{run, same}
use Rattle.base.proofs.IfLaws.{if_true, by_test, both_first, not_via}
use Rattle.base.proofs.RunLaws.{run_le}
use Rattle.lex_keyword.specs.Names.{folded, same_name, names, name_index, keyword_of, is_later, unknown}
use Rattle.lex_keyword.specs.Bracket.{name_length, name_of, is_closed, is_good_bracket, argument_at, named_as, bracket_of}
use Rattle.lex_keyword.specs.Way.Reading.{opens_line}
use Rattle.lex_keyword.specs.declared.Bracket.{Bracket}
use Rattle.lex_keyword.specs.declared.Bracket.TheVariants.{Plain, Indented, Bad, Unknown, Later, Keyword}

place_le : (a : List ℕ) (ns : List (List ℕ)) → name_index a ns ≤ length ns
unfolding name_index
place_le a [] = zero-le
place_le a (n ∷ ns) = by_test (λ (k : ℕ). k ≤ suc (length ns)) (same_name a n) _ _ (λ (e : same_name a n ≡ true). zero-le) (λ (e : same_name a n ≡ false). suc-le-suc (place_le a ns))

-- the number is that of a keyword, or `unknown`
pub key_most : (name : List ℕ) → keyword_of name ≤ unknown
unfolding keyword_of
key_most name = place_le name names

-- in a good bracket the argument starts after both brackets, and within the content or at its end
module _ (content : List ℕ) (good : is_good_bracket content ≡ true) where
  good_closed : name_length content + 1 < length content
  unfolding is_good_bracket is_closed
  good_closed = ltb-true (name_length content + 1) (length content) (both_first _ _ (both_first _ _ good))

  argument_inside : argument_at content ≤ length content
  unfolding argument_at
  argument_inside =
      let closed : name_length content + 1 < length content = good_closed in
      let most : run is_blank (drop (name_length content + 2) content) ≤ length (drop (name_length content + 2) content) = run_le is_blank (drop (name_length content + 2) content) in
      omega (arith, length-drop (name_length content + 2) content)

argument_past : (content : List ℕ) → 2 ≤ argument_at content
unfolding argument_at
argument_past content = omega arith

-- what is known if the answer is a keyword
pub record Known (content : List ℕ) (key argument : ℕ) : Type 0 where
  pub known : key < unknown
  pub now_read : is_later key ≡ false
  pub past : 2 ≤ argument
  pub inside : argument ≤ length content
  pub named : key ≡ keyword_of (name_of content)
  pub placed : argument ≡ argument_at content
  pub good : is_good_bracket content ≡ true
  pub opened : opens_line content ≡ true
  pub first_column : run is_blank content ≡ 0

abbrev is_keyword : Bracket → Bool
is_keyword Plain = false
is_keyword Indented = false
is_keyword Bad = false
is_keyword Unknown = false
is_keyword Later = false
is_keyword (Keyword key argument) = true

abbrev is_plain : Bracket → Bool
is_plain Plain = true
is_plain Indented = false
is_plain Bad = false
is_plain Unknown = false
is_plain Later = false
is_plain (Keyword key argument) = false

-- two answers with different results of a test are not equal
never : (test : Bracket → Bool) (r s : Bracket) (P : Type 0) → test s ≡ true → test r ≡ false → r ≡ s → P
never test r s P yes_there not_here e = absurd (true≢false (sym yes_there ∙ sym (ap test e) ∙ not_here))

module _ (key argument : ℕ) where
  -- an answer that is no keyword is not this one
  other : (r : Bracket) (P : Type 0) → is_keyword r ≡ false → r ≡ Keyword key argument → P
  other r P = never is_keyword r (Keyword key argument) P refl

  named_known : (k a : ℕ) → named_as k a ≡ Keyword key argument → (eqb k unknown ≡ false) × (is_later k ≡ false) × (key ≡ k) × (argument ≡ a)
  unfolding named_as
  named_known k a =
      by_test (λ (r : Bracket). r ≡ Keyword key argument → (eqb k unknown ≡ false) × (is_later k ≡ false) × (key ≡ k) × (argument ≡ a)) (eqb k unknown) _ _
      (λ (e : eqb k unknown ≡ true). other Unknown _ refl)
      (λ (e : eqb k unknown ≡ false).
      by_test (λ (r : Bracket). r ≡ Keyword key argument → (eqb k unknown ≡ false) × (is_later k ≡ false) × (key ≡ k) × (argument ≡ a)) (is_later k) _ _
      (λ (f : is_later k ≡ true). other Later _ refl)
      (λ (f : is_later k ≡ false) (h : Keyword k a ≡ Keyword key argument). (e, f, (cc), (cc))))

  module _ (content : List ℕ) where
    answer_known : not (opens_line content) ≡ false → ltb 0 (run is_blank content) ≡ false → not (is_good_bracket content) ≡ false → named_as (keyword_of (name_of content)) (argument_at content) ≡ Keyword key argument → Known content key argument
    answer_known opens column good h =
        let parts : (eqb (keyword_of (name_of content)) unknown ≡ false) × (is_later (keyword_of (name_of content)) ≡ false) × (key ≡ keyword_of (name_of content)) × (argument ≡ argument_at content) = named_known (keyword_of (name_of content)) (argument_at content) h in
        let other_key : keyword_of (name_of content) ≡ unknown → ⊥ = eqb-false (keyword_of (name_of content)) unknown parts.0 in
        let blanks : run is_blank content ≤ 0 = ltb-false 0 (run is_blank content) column in
        let most : argument_at content ≤ length content = argument_inside content (not-false (is_good_bracket content) good) in
        record {
          known = omega (arith, parts.2, key_most (name_of content), other_key);
          now_read = rw parts.2 parts.1;
          past = omega (arith, parts.3, argument_past content);
          inside = omega (arith, parts.3);
          named = parts.2;
          placed = parts.3;
          good = not-false (is_good_bracket content) good;
          opened = not-false (opens_line content) opens;
          first_column = omega arith;
        }

    -- all that follows from the answer `Keyword`
    pub keyword_known : bracket_of content ≡ Keyword key argument → Known content key argument
    unfolding bracket_of opens_line
    keyword_known =
        by_test (λ (r : Bracket). r ≡ Keyword key argument → Known content key argument) (not (opens_line content)) _ _
        (λ (e : not (opens_line content) ≡ true). other Plain _ refl)
        (λ (opens : not (opens_line content) ≡ false).
        by_test (λ (r : Bracket). r ≡ Keyword key argument → Known content key argument) (ltb 0 (run is_blank content)) _ _
        (λ (e : ltb 0 (run is_blank content) ≡ true). other Indented _ refl)
        (λ (column : ltb 0 (run is_blank content) ≡ false).
        by_test (λ (r : Bracket). r ≡ Keyword key argument → Known content key argument) (not (is_good_bracket content)) _ _
        (λ (e : not (is_good_bracket content) ≡ true). other Bad _ refl)
        (λ (good : not (is_good_bracket content) ≡ false). answer_known opens column good)))

-- `Plain` exactly when the first byte that is not blank is no `[`
module _ (content : List ℕ) where
  pub plain_when : opens_line content ≡ false → bracket_of content ≡ Plain
  unfolding bracket_of opens_line
  plain_when h = if_true _ _ (not_via h)

  not_plain : (r : Bracket) → is_plain r ≡ false → r ≡ Plain → opens_line content ≡ false
  not_plain r = never is_plain r Plain (opens_line content ≡ false) refl

  named_not_plain : (k a : ℕ) → named_as k a ≡ Plain → opens_line content ≡ false
  unfolding named_as
  named_not_plain k a =
      by_test (λ (r : Bracket). r ≡ Plain → opens_line content ≡ false) (eqb k unknown) _ _
      (λ (e : eqb k unknown ≡ true). not_plain Unknown refl)
      (λ (e : eqb k unknown ≡ false).
      by_test (λ (r : Bracket). r ≡ Plain → opens_line content ≡ false) (is_later k) _ _
      (λ (f : is_later k ≡ true). not_plain Later refl)
      (λ (f : is_later k ≡ false). not_plain (Keyword k a) refl))

  pub plain_only : bracket_of content ≡ Plain → opens_line content ≡ false
  unfolding bracket_of opens_line
  plain_only =
      by_test (λ (r : Bracket). r ≡ Plain → opens_line content ≡ false) (not (opens_line content)) _ _
      (λ (e : not (opens_line content) ≡ true) (h : Plain ≡ Plain). not-true (opens_line content) e)
      (λ (opens : not (opens_line content) ≡ false).
      by_test (λ (r : Bracket). r ≡ Plain → opens_line content ≡ false) (ltb 0 (run is_blank content)) _ _
      (λ (e : ltb 0 (run is_blank content) ≡ true). not_plain Indented refl)
      (λ (column : ltb 0 (run is_blank content) ≡ false).
      by_test (λ (r : Bracket). r ≡ Plain → opens_line content ≡ false) (not (is_good_bracket content)) _ _
      (λ (e : not (is_good_bracket content) ≡ true). not_plain Bad refl)
      (λ (good : not (is_good_bracket content) ≡ false). named_not_plain (keyword_of (name_of content)) (argument_at content))))

-- the number of each of the forty names is its index: no two of them are the same
pub each_name : map keyword_of names ≡ 0 ∷ 1 ∷ 2 ∷ 3 ∷ 4 ∷ 5 ∷ 6 ∷ 7 ∷ 8 ∷ 9 ∷ 10 ∷ 11 ∷ 12 ∷ 13 ∷ 14 ∷ 15 ∷ 16 ∷ 17 ∷ 18 ∷ 19 ∷ 20 ∷ 21 ∷ 22 ∷ 23 ∷ 24 ∷ 25 ∷ 26 ∷ 27 ∷ 28 ∷ 29 ∷ 30 ∷ 31 ∷ 32 ∷ 33 ∷ 34 ∷ 35 ∷ 36 ∷ 37 ∷ 38 ∷ 39 ∷ []
unfolding keyword_of name_index same_name same folded provided◌then◌else◌ both small is_capital within
each_name = refl
