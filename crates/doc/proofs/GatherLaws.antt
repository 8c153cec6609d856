-- Laws of the two functions by which the document is said: the lines up to one that does not pass a test, and what is
-- gathered line by line.
-- Assumes nothing.
use mathlib.Core.Path.{◌≡◌, refl, sym, ◌∙◌, ap}
use mathlib.Core.Bool.{Bool, true, false}
use mathlib.Core.List.{List, [], ◌∷◌, ◌++◌}
use Rattle.base.proofs.IfLaws.{if_true, if_false, by_cases}
use Rattle.doc.specs.Lines.{Line, gather, up_to}

-- ---- lines up to one that does not pass a test

module _ (inside : Line → Bool) where
  pub up_none : up_to inside [] ≡ []
  unfolding up_to
  up_none = refl

  pub up_in : (l : Line) (ls : List Line) → inside l ≡ true → up_to inside (l ∷ ls) ≡ l ∷ up_to inside ls
  unfolding up_to
  up_in l ls e = if_true _ _ e

  pub up_out : (l : Line) (ls : List Line) → inside l ≡ false → up_to inside (l ∷ ls) ≡ []
  unfolding up_to
  up_out l ls e = if_false _ _ e

-- a narrower test of what a wider one leaves
pub up_up :
    (narrow wide : Line → Bool) → ((l : Line) → narrow l ≡ true → wide l ≡ true) → (ls : List Line) →
    up_to narrow (up_to wide ls) ≡ up_to narrow ls
up_up narrow wide h [] = ap (up_to narrow) (up_none wide)
up_up narrow wide h (l ∷ ls) =
    by_cases (up_to narrow (up_to wide (l ∷ ls)) ≡ up_to narrow (l ∷ ls)) (narrow l)
    (λ (e : narrow l ≡ true).
    ap (up_to narrow) (up_in wide l ls (h l e)) ∙ up_in narrow l (up_to wide ls) e ∙ ap (λ (xs : List Line). l ∷ xs) (up_up narrow wide h ls)
    ∙ sym (up_in narrow l ls e))
    (λ (e : narrow l ≡ false).
    by_cases (up_to narrow (up_to wide (l ∷ ls)) ≡ up_to narrow (l ∷ ls)) (wide l)
    (λ (f : wide l ≡ true). ap (up_to narrow) (up_in wide l ls f) ∙ up_out narrow l (up_to wide ls) e ∙ sym (up_out narrow l ls e))
    (λ (f : wide l ≡ false). ap (up_to narrow) (up_out wide l ls f) ∙ up_none narrow ∙ sym (up_out narrow l ls e)))

-- ---- what is gathered line by line

module _ {A : Type 0} (here : Line → List Line → List A) where
  pub gather_none : gather here [] ≡ []
  unfolding gather
  gather_none = refl

  pub gather_more : (l : Line) (ls : List Line) → gather here (l ∷ ls) ≡ here l ls ++ gather here ls
  unfolding gather
  gather_more l ls = refl

  -- a line that gives nothing
  pub gather_quiet : (l : Line) (ls : List Line) → here l ls ≡ [] → gather here (l ∷ ls) ≡ gather here ls
  unfolding gather
  gather_quiet l ls e = ap (λ (x : List A). x ++ gather here ls) e
