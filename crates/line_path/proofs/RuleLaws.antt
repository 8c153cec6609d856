-- Laws of the rules of a path: the code, making one test after another, returns what each definition gives.
-- Assumes nothing.
use mathlib.Core.Path.{◌≡◌, refl, sym, ◌∙◌}
use mathlib.Core.Bool.{Bool, true, false, not}
use Prim.Native.Nat.{ℕ, ◌≤◌, ◌<◌}
use native.Mathlib.Omega.{arith}
use lib.Dec.{leb, eqb}
use borrow.Author.Tests.{eq-eqb, ne_eqb, le-leb, lt-leb, not-true, not-false}
use Rattle.table_layout.specs.Bounds.{deepest, most_steps}
use Rattle.base.specs.If.{both}
use Rattle.base.specs.Broken.{first}
use Rattle.base.specs.Refusal as refusal
use Rattle.base.proofs.IfLaws.{both_true, both_rest, both_not_left, both_not_right, either_rest, either_comes, not_via, not_not_via}
use Rattle.base.proofs.BrokenLaws.{gives_first, gives_later, lists_yes, lists_no}
use Rattle.line_path.specs.Path.{says_side, says_fork, says_endfork, closed, is_bad_fork, is_step_line}
use Rattle.line_path.specs.declared.Path.{Path}
use Rattle.line_path.specs.declared.PathLine.{PathLine}
use Rattle.line_path.specs.Way.Rule.{open_rule, closed_rule, path_rule}

-- ---- 15

module _ (l : PathLine) (p : Path) where
  pub bad_fork : l.says ≡ says_fork → leb deepest p.depth ≡ is_bad_fork l p
  unfolding is_bad_fork
  bad_fork e =
      sym (either_comes _ _ (both_not_left _ _ (ne_eqb l.says says_endfork (λ (f : l.says ≡ says_endfork). omega arith))) ∙ both_rest _ _ (eq-eqb _ _ e))

  module _ (n : l.says ≡ says_fork → ⊥) where
    pub bad_endfork : l.says ≡ says_endfork → eqb p.depth 0 ≡ is_bad_fork l p
    unfolding is_bad_fork
    bad_endfork e = sym (either_rest _ _ (both_not_left _ _ (ne_eqb _ _ n)) ∙ both_rest _ _ (eq-eqb _ _ e))

-- ---- 17; t says whether the line is a step

module _ (l : PathLine) (steps : ℕ) (t : Bool) (told : t ≡ is_step_line l) where
  pub side_free : not t ≡ true → 0 ≡ first (both (is_step_line l) (leb most_steps steps)) refusal.limit 0
  side_free e = gives_later _ _ _ 0 (both_not_left _ _ (sym told ∙ not-true t e)) refl

  pub step_over : not t ≡ false → most_steps ≤ steps → refusal.limit ≡ first (both (is_step_line l) (leb most_steps steps)) refusal.limit 0
  step_over e h = gives_first _ _ _ (both_true _ _ (sym told ∙ not-false t e) (le-leb most_steps steps h))

  pub step_free : steps < most_steps → 0 ≡ first (both (is_step_line l) (leb most_steps steps)) refusal.limit 0
  step_free h = gives_later _ _ _ 0 (both_not_right _ _ (lt-leb most_steps steps h)) refl

-- ---- a closed path

module _ (l : PathLine) (p : Path) where
  pub closed_other : (l.says ≡ says_side → ⊥) → refusal.line ≡ closed_rule l p
  unfolding closed_rule first
  closed_other n = sym (lists_no _ _ _ (both_not_left _ _ (ne_eqb _ _ n)))

  pub closed_late : not p.side ≡ true → refusal.line ≡ closed_rule l p
  unfolding closed_rule first
  closed_late e = sym (lists_no _ _ _ (both_not_right _ _ (not-true _ e)))

  module _ (says : l.says ≡ says_side) (next : not p.side ≡ false) where
    closed_side : both (eqb l.says says_side) p.side ≡ true
    closed_side = both_true _ _ (eq-eqb _ _ says) (not-false _ next)

    pub closed_right : l.right ≡ true → 0 ≡ closed_rule l p
    unfolding closed_rule
    closed_right e = gives_later _ _ _ 0 (not_not_via e) refl ∙ sym (lists_yes _ _ _ closed_side)

    pub closed_wrong : l.right ≡ false → refusal.argument ≡ closed_rule l p
    unfolding closed_rule
    closed_wrong e = gives_first _ _ _ (not_via e) ∙ sym (lists_yes _ _ _ closed_side)

-- ---- by the stage

module _ (l : PathLine) (p : Path) (steps : ℕ) where
  pub path_closed : eqb p.stage closed ≡ true → path_rule l p steps ≡ closed_rule l p
  unfolding path_rule closed_rule
  path_closed e = lists_yes _ _ _ e

  pub path_open_lem : eqb p.stage closed ≡ false → path_rule l p steps ≡ open_rule l p steps
  unfolding path_rule open_rule
  path_open_lem e = lists_no _ _ _ e
