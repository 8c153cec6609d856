-- The depth of a path: after a line that breaks no rule it is still at most 8. A Fork raises it by one, an Endfork
-- lowers it by one, and no other line changes it.
-- Assumes nothing.
use mathlib.Core.Path.{◌≡◌, refl, sym, ◌∙◌, ap}
use mathlib.Core.Bool.{true, false}
use Prim.Native.Nat.{ℕ, ◌+◌, ◌-◌, ◌≤◌, ◌<◌}
use native.Mathlib.Omega.{arith}
use lib.Dec.{eqb}
use borrow.Author.Tests.{eq-eqb, ne_eqb, eqb-true, eqb-false, leb-false}
use Rattle.table_layout.specs.Bounds.{deepest}
use Rattle.base.specs.Refusal as refusal
use Rattle.base.proofs.IfLaws.{if_true, if_false, by_cases, by_test}
use Rattle.base.proofs.BrokenLaws.{first_broken_lem}
use Rattle.line_path.specs.Path.{says_end, says_side, says_section, says_fork, says_endfork, closed, starting, new_path, is_bad_fork, with_end, path_next}
use Rattle.line_path.specs.declared.Path.{Path}
use Rattle.line_path.specs.declared.PathLine.{PathLine}
use Rattle.line_path.specs.Way.Rule.{open_rule, path_rule}
use Rattle.line_path.proofs.RuleLaws.{bad_fork, bad_endfork, closed_other, path_closed, path_open_lem}

-- an end does not change the depth
end_keeps : (p : Path) → (with_end p).depth ≡ p.depth
unfolding with_end
end_keeps p =
    by_test (λ (q : Path). q.depth ≡ p.depth) (eqb p.stage starting) _ _ (λ (e : eqb p.stage starting ≡ true). refl)
    (λ (e : eqb p.stage starting ≡ false).
    by_test (λ (q : Path). q.depth ≡ p.depth) (eqb p.depth 0) _ _
    (λ (z : eqb p.depth 0 ≡ true). sym (eqb-true p.depth 0 z))
    (λ (z : eqb p.depth 0 ≡ false). refl))

-- a path starts outside every block
pub new_outside : new_path.depth ≡ 0
unfolding new_path
new_outside = refl

module _ (l : PathLine) (p : Path) where
  pub fork_raises : l.says ≡ says_fork → (path_next l p).depth ≡ p.depth + 1
  unfolding path_next
  fork_raises e =
      let n : eqb l.says says_end ≡ false = ne_eqb l.says says_end (λ (f : l.says ≡ says_end). omega arith) in
      let m : eqb l.says says_section ≡ false = ne_eqb l.says says_section (λ (f : l.says ≡ says_section). omega arith) in
      ap (λ (q : Path). q.depth) (if_false _ _ n ∙ if_false _ _ m ∙ if_true _ _ (eq-eqb _ _ e))

  endfork_takes : l.says ≡ says_endfork → (path_next l p).depth ≡ p.depth - 1
  unfolding path_next
  endfork_takes e =
      let n : eqb l.says says_end ≡ false = ne_eqb l.says says_end (λ (f : l.says ≡ says_end). omega arith) in
      let m : eqb l.says says_section ≡ false = ne_eqb l.says says_section (λ (f : l.says ≡ says_section). omega arith) in
      let o : eqb l.says says_fork ≡ false = ne_eqb l.says says_fork (λ (f : l.says ≡ says_fork). omega arith) in
      ap (λ (q : Path). q.depth) (if_false _ _ n ∙ if_false _ _ m ∙ if_false _ _ o ∙ if_true _ _ (eq-eqb _ _ e))

  pub other_keeps : (l.says ≡ says_fork → ⊥) → (l.says ≡ says_endfork → ⊥) → (path_next l p).depth ≡ p.depth
  unfolding path_next
  other_keeps n m =
      by_test (λ (q : Path). q.depth ≡ p.depth) (eqb l.says says_end) _ _ (λ (e : eqb l.says says_end ≡ true). end_keeps p)
      (λ (e : eqb l.says says_end ≡ false).
      by_test (λ (q : Path). q.depth ≡ p.depth) (eqb l.says says_section) _ _ (λ (f : eqb l.says says_section ≡ true). refl)
      (λ (f : eqb l.says says_section ≡ false). ap (λ (q : Path). q.depth) (if_false _ _ (ne_eqb _ _ n) ∙ if_false _ _ (ne_eqb _ _ m))))

  module _ (steps : ℕ) (kept : path_rule l p steps ≡ 0) where
    -- a closed path takes only a Side
    pub open_kept : (l.says ≡ says_side → ⊥) → open_rule l p steps ≡ 0
    open_kept n =
        by_cases _ (eqb p.stage closed)
        (λ (e : eqb p.stage closed ≡ true).
        let z : refusal.line ≡ 0 = closed_other l p n ∙ sym (path_closed l p steps e) ∙ kept in
        absurd (omega arith))
        (λ (e : eqb p.stage closed ≡ false). sym (path_open_lem l p steps e) ∙ kept)

    no_bad_fork : (l.says ≡ says_side → ⊥) → is_bad_fork l p ≡ false
    unfolding open_rule
    no_bad_fork n =
        by_cases _ (is_bad_fork l p)
        (λ (e : is_bad_fork l p ≡ true).
        let z : refusal.fork ≡ 0 = sym (first_broken_lem _ _ _ e) ∙ open_kept n in
        absurd (omega arith))
        (λ (e : is_bad_fork l p ≡ false). e)

    -- at a Fork that breaks nothing the depth is below 8
    pub fork_below : l.says ≡ says_fork → p.depth < deepest
    fork_below e = leb-false deepest p.depth (bad_fork l p e ∙ no_bad_fork (λ (f : l.says ≡ says_side). omega arith))

    -- at an Endfork that breaks nothing a block is open
    pub endfork_inside : l.says ≡ says_endfork → (p.depth ≡ 0 → ⊥)
    endfork_inside e = eqb-false p.depth 0 (bad_endfork l p (λ (f : l.says ≡ says_fork). omega arith) e ∙ no_bad_fork (λ (f : l.says ≡ says_side). omega arith))

    pub endfork_lowers : l.says ≡ says_endfork → (path_next l p).depth + 1 ≡ p.depth
    endfork_lowers e =
        let d : (path_next l p).depth ≡ p.depth - 1 = endfork_takes e in
        let n : p.depth ≡ 0 → ⊥ = endfork_inside e in
        omega arith

    pub depth_within : p.depth ≤ deepest → (path_next l p).depth ≤ deepest
    depth_within h =
        by_cases _ (eqb l.says says_fork)
        (λ (e : eqb l.says says_fork ≡ true).
        let f : l.says ≡ says_fork = eqb-true l.says says_fork e in
        let d : (path_next l p).depth ≡ p.depth + 1 = fork_raises f in
        let b : p.depth < deepest = fork_below f in
        omega arith)
        (λ (e : eqb l.says says_fork ≡ false).
        by_cases _ (eqb l.says says_endfork)
        (λ (g : eqb l.says says_endfork ≡ true).
        let d : (path_next l p).depth ≡ p.depth - 1 = endfork_takes (eqb-true l.says says_endfork g) in
        omega arith)
        (λ (g : eqb l.says says_endfork ≡ false).
        let d : (path_next l p).depth ≡ p.depth = other_keeps (eqb-false l.says says_fork e) (eqb-false l.says says_endfork g) in
        omega arith))
