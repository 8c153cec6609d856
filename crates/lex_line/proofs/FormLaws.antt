-- Laws of the form of a line: how many words it has, by a count that stops at 3, and its parts before and after `=`.
-- Assumes nothing.
use mathlib.Core.Path.{◌≡◌, sym, ◌∙◌, ap}
use mathlib.Core.Bool.{true, false}
use mathlib.Core.List.{List}
use Prim.Native.Nat.{ℕ, ◌+◌, ◌-◌, ◌≤◌, ◌<◌, min}
use Prim.Native.Char.{code}
use native.Mathlib.Omega.{arith}
use lib.ListN.{length, take, drop, length-drop}
use lib.Seq.{take_all, length-take-le}
use lib.Dec.{eqb}
use borrow.Author.Tests.{eq-eqb, ne_eqb, eqb-true, eqb-false, lt-ltb, le-ltb}
use Rattle.base.specs.Bytes.{is_before}
use Rattle.base.proofs.IfLaws.{by_cases}
use Rattle.base.proofs.RunLaws.{run_le}
use Rattle.lex_line.specs.Words.{words, to_equals, has_equals, left_of, right_of}
use Rattle.lex_line.specs.Way.Spans.{first_two_of}
use Rattle.lex_line.specs.declared.FirstTwo.{FirstTwo}
use Rattle.lex_line.proofs.WordLaws.{first_ordered, first_within, second_ordered, second_within}

-- what `marked` requires, for each of the first two words of a line
pub ruleset marks = (first_ordered, first_within, second_ordered, second_within)

module _ (s : List ℕ) (few : FirstTwo) (told : few ≡ first_two_of s) where
  count_told : few.count ≡ min 3 (length (words s))
  unfolding first_two_of
  count_told = ap (λ (f : FirstTwo). f.count) told

  -- if the count is n, the line has n words, for n below 3
  pub counted : (n : ℕ) → n < 3 → few.count ≡ n → eqb (length (words s)) n ≡ true
  counted n h e = let k : few.count ≡ min 3 (length (words s)) = count_told in eq-eqb (length (words s)) n (omega arith)

  -- if the count is not n, the line does not have n words
  pub counted_not : (n : ℕ) → n < 3 → (few.count ≡ n → ⊥) → eqb (length (words s)) n ≡ false
  counted_not n h e = let k : few.count ≡ min 3 (length (words s)) = count_told in ne_eqb (length (words s)) n (λ (f : length (words s) ≡ n). e (omega arith))

  -- whether a line has n words, by its count
  pub count_tells : (n : ℕ) → n < 3 → eqb few.count n ≡ eqb (length (words s)) n
  count_tells n h =
      by_cases _ (eqb few.count n)
      (λ (e : eqb few.count n ≡ true). e ∙ sym (counted n h (eqb-true few.count n e)))
      (λ (e : eqb few.count n ≡ false). e ∙ sym (counted_not n h (eqb-false few.count n e)))

-- the bytes of `&s[from..]`
pub part_from : (s : List ℕ) (from : ℕ) → take (length s - from) (drop from s) ≡ drop from s
part_from s from = let e : length (drop from s) ≡ length s - from = length-drop from s in take_all (length s - from) (drop from s) (omega arith)

-- a line split at its first `=`
module _ (content : List ℕ) (sign : ℕ) (at : sign ≡ to_equals content) where
  pub sign_within : sign ≤ length content
  sign_within = rw at (run_le (is_before (code "=")) content)

  pub sign_taken : sign ≡ length (take sign content)
  sign_taken = sym (length-take-le sign content sign_within)

  pub sign_none : length content ≤ sign → has_equals content ≡ false
  unfolding has_equals
  sign_none h = le-ltb (to_equals content) (length content) (rw at at h)

  pub sign_there : sign < length content → has_equals content ≡ true
  unfolding has_equals
  sign_there h = lt-ltb (to_equals content) (length content) (rw at at h)

  pub left_words : words (take sign content) ≡ left_of content
  unfolding left_of
  left_words = ap (λ (n : ℕ). words (take n content)) at

  pub right_words : words (take (length content - (sign + 1)) (drop (sign + 1) content)) ≡ right_of content
  unfolding right_of
  right_words = ap words (part_from content (sign + 1)) ∙ ap (λ (n : ℕ). words (drop (n + 1) content)) at
