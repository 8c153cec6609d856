-- The lines of a path of a text that reads to its end: each says one of the five things that a line of a path can say.
-- It gives one step, or none if it is a Side.
-- Assumes nothing.
use mathlib.Core.Path.{◌≡◌, refl, sym, ◌∙◌}
use mathlib.Core.Bool.{true, false, not, true≢false}
use mathlib.Core.List.{List, [], ◌∷◌}
use Prim.Native.Nat.{ℕ, ◌+◌}
use native.Mathlib.Omega.{arith}
use lib.ListN.{length}
use lib.Dec.{eqb, leb}
use borrow.Author.Tests.{eq-eqb, ne_eqb, eqb-true, eqb-false}
use Rattle.table_layout.specs.Bounds.{most_steps}
use Rattle.base.specs.If.{provided◌then◌else◌, both, either}
use Rattle.base.specs.Broken.{Rule, ◌when◌}
use Rattle.base.specs.Bytes.{bytes}
use Rattle.base.specs.Runs.{same}
use Rattle.base.proofs.IfLaws.{if_true, if_false, by_test, by_cases, both_true, both_not_left, both_not_right, not_via, not_not_via}
use Rattle.base.proofs.BrokenLaws.{Numbered, all_kept}
use Rattle.lex_line.specs.Words.{words, first_of}
use Rattle.line_place.specs.Place as place
use Rattle.line_path.specs.Path.{saying_of, plain_line, is_section_line, section_line, line_saying, path_line_of, closed, is_bad_fork, is_path_out_of_order, is_step_line}
use Rattle.line_path.specs.Path as path
use Rattle.line_path.specs.declared.Path.{Path}
use Rattle.line_path.specs.declared.PathLine.{PathLine}
use Rattle.line_path.proofs.RuleLaws.{closed_other, path_closed, path_open_lem}
use Rattle.line_path.specs.Way.Rule.{open_rule, path_rule}
use Rattle.line_keyword.specs.Keywords.{one_more_if}
use Rattle.line_keyword.specs.declared.State.{State}
use Rattle.read_line.proofs.ResultLaws.{rule_path}
use Rattle.read_line.specs.Way.Steps.{line_rule}
use Rattle.doc.specs.Lines.{Line, plain, key_of, stands_in}
use Rattle.doc.specs.Document.{Step, saying_at, step_of}

-- ---- what a line says

-- one of the six
saying_none :
    (w : List ℕ) → eqb (saying_of w) path.says_section ≡ false → either (eqb (saying_of w) path.says_fork) (eqb (saying_of w) path.says_endfork) ≡ false →
    either (eqb (saying_of w) path.says_end) (eqb (saying_of w) path.says_side) ≡ false → path.says_nothing ≡ saying_of w
unfolding saying_of either
saying_none w =
    by_test Other (same w (bytes "Section")) _ _
    (λ e (a : true ≡ false) b c. absurd (true≢false a))
    (λ e.
    by_test Other (same w (bytes "Fork")) _ _
    (λ f a (b : true ≡ false) c. absurd (true≢false b))
    (λ f.
    by_test Other (same w (bytes "Endfork")) _ _
    (λ g a (b : true ≡ false) c. absurd (true≢false b))
    (λ g.
    by_test Other (same w (bytes "Model_pinmap")) _ _
    (λ h a b (c : true ≡ false). absurd (true≢false c))
    (λ h.
    by_test Other (same w (bytes "Side")) _ _
    (λ i a b (c : true ≡ false). absurd (true≢false c))
    (λ i a b c. refl)))))
  where
    Other : ℕ → Type 0
    Other v =
        eqb v path.says_section ≡ false → either (eqb v path.says_fork) (eqb v path.says_endfork) ≡ false →
        either (eqb v path.says_end) (eqb v path.says_side) ≡ false → path.says_nothing ≡ v

section_says : (content : List ℕ) → (section_line content).says ≡ path.says_section
unfolding section_line plain_line
section_says content =
    by_test (λ (l : PathLine). l.says ≡ path.says_section) (is_section_line content) _ _ (λ (e : is_section_line content ≡ true). refl)
    (λ (e : is_section_line content ≡ false). refl)

-- a line of a path says what its first word says
pub says_said : (content : List ℕ) → (path_line_of content).says ≡ saying_of (first_of (words content))
unfolding path_line_of line_saying plain_line
says_said content =
    by_test (λ (l : PathLine). l.says ≡ saying_of (first_of (words content))) (eqb (saying_of (first_of (words content))) path.says_section) _ _
    (λ (e : eqb (saying_of (first_of (words content))) path.says_section ≡ true). section_says content ∙ sym (eqb-true _ _ e))
    (λ (e : eqb (saying_of (first_of (words content))) path.says_section ≡ false).
    by_test (λ (l : PathLine). l.says ≡ saying_of (first_of (words content)))
    (either (eqb (saying_of (first_of (words content))) path.says_fork) (eqb (saying_of (first_of (words content))) path.says_endfork)) _ _
    (λ f. refl)
    (λ (f : either (eqb (saying_of (first_of (words content))) path.says_fork) (eqb (saying_of (first_of (words content))) path.says_endfork) ≡ false).
    by_test (λ (l : PathLine). l.says ≡ saying_of (first_of (words content)))
    (either (eqb (saying_of (first_of (words content))) path.says_end) (eqb (saying_of (first_of (words content))) path.says_side)) _ _
    (λ g. refl)
    (λ (g : either (eqb (saying_of (first_of (words content))) path.says_end) (eqb (saying_of (first_of (words content))) path.says_side) ≡ false).
    saying_none (first_of (words content)) e f g)))

-- what a line in a path says is what the document takes from it
pub saying_there : (l : Line) → l.place ≡ place.path → key_of l ≡ plain → saying_at l ≡ (path_line_of l.content).says
unfolding saying_at stands_in
saying_there l e k = if_true _ _ (both_true _ _ (eq-eqb _ _ e) (eq-eqb _ _ k)) ∙ sym (says_said l.content)

-- elsewhere it says nothing
pub saying_elsewhere : (l : Line) → (l.place ≡ place.path → ⊥) → saying_at l ≡ path.says_nothing
unfolding saying_at stands_in
saying_elsewhere l n = if_false _ _ (both_not_left _ _ (ne_eqb _ _ n))

pub saying_keyed : (l : Line) → eqb (key_of l) plain ≡ false → saying_at l ≡ path.says_nothing
unfolding saying_at stands_in
saying_keyed l k = if_false _ _ (both_not_right _ _ k)

-- ---- what a line of a path that breaks no rule says

pub path_ruled :
    (content : List ℕ) (s : State) → s.place ≡ place.path → line_rule content s ≡ 0 →
    path_rule (path_line_of content) s.path s.counts.steps ≡ 0
path_ruled content s e h = sym (rule_path content s e) ∙ h

module _ (l : PathLine) (p : Path) (steps : ℕ) where
  abbrev open_rules : List Rule
  open_rules =
      15 when is_bad_fork l p
      ∷ 11 when not l.right
      ∷ 12 when is_path_out_of_order l p
      ∷ 13 when not l.formed
      ∷ 14 when not l.bounded
      ∷ 17 when both (is_step_line l) (leb most_steps steps)
      ∷ []

  numbered : Numbered open_rules
  numbered = (omega arith, (omega arith, (omega arith, (omega arith, (omega arith, (omega arith, tt))))))

  orderly : open_rule l p steps ≡ 0 → is_path_out_of_order l p ≡ false
  unfolding open_rule
  orderly h = all_kept open_rules numbered h 2

  nothing_disorderly :
      eqb l.says path.says_side ≡ false → eqb l.says path.says_section ≡ false → eqb l.says path.says_fork ≡ false →
      eqb l.says path.says_end ≡ false → eqb l.says path.says_endfork ≡ false → is_path_out_of_order l p ≡ true
  unfolding is_path_out_of_order
  nothing_disorderly a b c d e = if_false _ _ a ∙ if_false _ _ b ∙ if_false _ _ c ∙ if_false _ _ d ∙ if_false _ _ e

  pub path_says :
      path_rule l p steps ≡ 0 → eqb l.says path.says_side ≡ false → eqb l.says path.says_section ≡ false → eqb l.says path.says_fork ≡ false →
      eqb l.says path.says_end ≡ false → eqb l.says path.says_endfork ≡ false → ⊥
  path_says h a b c d e =
      by_cases ⊥ (eqb p.stage closed)
      (λ (t : eqb p.stage closed ≡ true).
      let z : 12 ≡ 0 = closed_other l p (eqb-false _ _ a) ∙ sym (path_closed l p steps t) ∙ h in
      omega arith)
      (λ (t : eqb p.stage closed ≡ false). true≢false (sym (nothing_disorderly a b c d e) ∙ orderly (sym (path_open_lem l p steps t) ∙ h)))

-- ---- the steps that it gives

pub silent_step : (l : Line) (after : List Line) → saying_at l ≡ path.says_nothing → step_of l after ≡ []
unfolding step_of provided◌then◌else◌
silent_step l after e = rw e

module _ (n v : ℕ) where
  counts_one : (v ≡ path.says_side → ⊥) → one_more_if (not (eqb v path.says_side)) n ≡ n + 1
  unfolding one_more_if
  counts_one h = if_true _ _ (not_via (ne_eqb _ _ h))

  counts_none : v ≡ path.says_side → one_more_if (not (eqb v path.says_side)) n ≡ n
  unfolding one_more_if
  counts_none h = if_false _ _ (not_not_via (eq-eqb _ _ h))

module _ (n : ℕ) (l : Line) (after : List Line) where
  pub said_steps :
      (eqb (saying_at l) path.says_side ≡ false → eqb (saying_at l) path.says_section ≡ false → eqb (saying_at l) path.says_fork ≡ false →
      eqb (saying_at l) path.says_end ≡ false → eqb (saying_at l) path.says_endfork ≡ false → ⊥) →
      one_more_if (not (eqb (saying_at l) path.says_side)) n ≡ n + length (step_of l after)
  unfolding step_of
  said_steps five =
      by_test Counts (eqb (saying_at l) path.says_end) _ _
      (λ (a : eqb (saying_at l) path.says_end ≡ true). one path.says_end (eqb-true _ _ a) (λ (z : path.says_end ≡ path.says_side). omega arith))
      (λ (a : eqb (saying_at l) path.says_end ≡ false).
      by_test Counts (eqb (saying_at l) path.says_section) _ _
      (λ (b : eqb (saying_at l) path.says_section ≡ true). one path.says_section (eqb-true _ _ b) (λ (z : path.says_section ≡ path.says_side). omega arith))
      (λ (b : eqb (saying_at l) path.says_section ≡ false).
      by_test Counts (eqb (saying_at l) path.says_fork) _ _
      (λ (c : eqb (saying_at l) path.says_fork ≡ true). one path.says_fork (eqb-true _ _ c) (λ (z : path.says_fork ≡ path.says_side). omega arith))
      (λ (c : eqb (saying_at l) path.says_fork ≡ false).
      by_test Counts (eqb (saying_at l) path.says_endfork) _ _
      (λ (d : eqb (saying_at l) path.says_endfork ≡ true). one path.says_endfork (eqb-true _ _ d) (λ (z : path.says_endfork ≡ path.says_side). omega arith))
      (λ (d : eqb (saying_at l) path.says_endfork ≡ false).
      by_cases (Counts []) (eqb (saying_at l) path.says_side)
      (λ (e : eqb (saying_at l) path.says_side ≡ true).
      let z : one_more_if (not (eqb (saying_at l) path.says_side)) n ≡ n = counts_none n (saying_at l) (eqb-true _ _ e) in
      omega arith)
      (λ (e : eqb (saying_at l) path.says_side ≡ false). absurd (five e b c a d))))))
    where
      Counts : List Step → Type 0
      Counts steps = one_more_if (not (eqb (saying_at l) path.says_side)) n ≡ n + length steps

      one : (v : ℕ) → saying_at l ≡ v → (v ≡ path.says_side → ⊥) → one_more_if (not (eqb (saying_at l) path.says_side)) n ≡ n + 1
      one v e h = counts_one n (saying_at l) (λ (z : saying_at l ≡ path.says_side). h (sym e ∙ z))
