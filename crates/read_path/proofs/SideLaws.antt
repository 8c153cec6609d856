-- Laws of the Side of an end: the name on the next significant line, if that line is a Side.
-- Assumes nothing.
use mathlib.Core.Path.{◌≡◌, refl, sym, ◌∙◌, ap}
use mathlib.Core.Bool.{not, true, false}
use mathlib.Core.List.{List, [], ◌∷◌}
use Prim.Native.Nat.{ℕ}
use native.Mathlib.Omega.{arith}
use lib.Dec.{eqb}
use borrow.Author.Tests.{eq-eqb, ne_eqb, eqb-true, eqb-false, not-true, not-false}
use Rattle.base.proofs.IfLaws.{if_true, if_false, by_cases}
use Rattle.lex_line.specs.Words.{words_from, words, first_of}
use Rattle.line_place.specs.Place as place
use Rattle.line_path.specs.Path.{says_nothing, says_side, saying_of}
use Rattle.doc.specs.Lines.{plain, key_of, lines_at, words_of, no_word, second_word}
use Rattle.doc.specs.Document.{saying_at, side_in}
use Rattle.doc.specs.Way.Found.{extent_of, content_in, line_in, Located, FindsLine}
use Rattle.doc.specs.declared.Found.{Found}
use Rattle.doc.specs.declared.Extent.{Extent}
use Rattle.doc.proofs.StepLaws.{says_said, saying_there, saying_keyed}

-- what is not other than a number is that number
eq_of_not_not : (m n : ℕ) → ((m ≡ n → ⊥) → ⊥) → m ≡ n
eq_of_not_not m n h =
    by_cases (m ≡ n) (eqb m n) (λ (e : eqb m n ≡ true). eqb-true m n e)
    (λ (e : eqb m n ≡ false). absurd (h (λ (k : m ≡ n). eqb-false m n e k)))

no_extent : record { start = 0; size = 0 } ≡ extent_of no_word
unfolding extent_of no_word
no_extent = refl

module _ (t : List ℕ) (line : Found) (located : Located t line) where
  no_side : (n : ℕ) → saying_at (line_in t line place.path) ≡ n → (n ≡ says_side → ⊥) →
      record { start = 0; size = 0 } ≡ extent_of (side_in (line_in t line place.path ∷ []))
  no_side n e h = no_extent ∙ ap extent_of (sym (if_false _ _ (ne_eqb _ _ (λ (k : saying_at (line_in t line place.path) ≡ says_side). h (sym e ∙ k)))))

  pub side_keyed : (line.key ≡ plain → ⊥) → record { start = 0; size = 0 } ≡ extent_of (side_in (line_in t line place.path ∷ []))
  unfolding key_of
  side_keyed k =
      no_side says_nothing (saying_keyed (line_in t line place.path) (ne_eqb _ _ (λ (e : ◌≡◌ {A = ℕ} _ plain). k (located.key_is ∙ e))))
      (λ (e : says_nothing ≡ says_side). omega arith)

  module _ (k : (line.key ≡ plain → ⊥) → ⊥) (word : List ℕ) (word_is : word ≡ first_of (words (content_in t line))) (says : ℕ)
      (told : says ≡ saying_of word) where
    key_here : key_of (line_in t line place.path) ≡ plain
    unfolding key_of
    key_here = sym located.key_is ∙ eq_of_not_not line.key plain k

    says_here : saying_at (line_in t line place.path) ≡ says
    says_here = saying_there (line_in t line place.path) refl key_here ∙ says_said (content_in t line) ∙ sym (told ∙ ap saying_of word_is)

    pub side_other : (says ≡ says_side → ⊥) → record { start = 0; size = 0 } ≡ extent_of (side_in (line_in t line place.path ∷ []))
    side_other h = no_side says says_here h

    pub side_told : ((says ≡ says_side → ⊥) → ⊥) → (r : Extent) → r ≡ extent_of (second_word (words_from line.at (content_in t line))) →
        r ≡ extent_of (side_in (line_in t line place.path ∷ []))
    unfolding words_of
    side_told h r e = e ∙ ap extent_of (sym (if_true _ _ (eq-eqb _ _ (says_here ∙ eq_of_not_not says says_side h))))

-- the next line that says something
module _ (t : List ℕ) (n at : ℕ) (line : Found) (finds : FindsLine t n at line) where
  pub side_none : not line.there ≡ true → record { start = 0; size = 0 } ≡ extent_of (side_in (lines_at t n at place.path))
  side_none h = rw (finds.same_none (not-true line.there h) place.path) no_extent

  module _ (there : not line.there ≡ false) where
    pub side_line : Located t line
    side_line = finds.located (not-false line.there there)

    pub side_next : (r : Extent) → r ≡ extent_of (side_in (line_in t line place.path ∷ [])) → r ≡ extent_of (side_in (lines_at t n at place.path))
    side_next r h = rw (finds.same_there (not-false line.there there) place.path) h
