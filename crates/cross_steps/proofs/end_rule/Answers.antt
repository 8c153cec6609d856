-- `cross_steps::end_rule` meets its contract.
-- Assumes nothing.
use mathlib.Core.Path.{◌≡◌}
use Prim.Native.Nat.{ℕ}
use Rattle.base.specs.Refusal as refusal
use native.Mathlib.Omega.{arith}
use Rattle.cross_steps.proofs.RuleLaws.{end_none, end_clashes, end_differs, end_kept}
use borrow.Author.Rules.{rules}
use Rattle.cross_steps.proofs.end_rule.Goals as goal

pub returns-then-counts-own : goal.returns-then-counts-own
returns-then-counts-own c = record { told = search end_none; marked = λ (z : ◌≡◌ {A = ℕ} refusal.no_map 0). absurd (omega arith) }

pub returns-then-is_met : goal.returns-then-is_met
returns-then-is_met c = record { told = search end_clashes; marked = λ (z : ◌≡◌ {A = ℕ} refusal.side 0). absurd (omega arith) }

pub returns-then-differs : goal.returns-then-differs
returns-then-differs c = record { told = search end_differs; marked = λ (z : ◌≡◌ {A = ℕ} refusal.count 0). absurd (omega arith) }

pub returns : goal.returns
returns c = record { told = search end_kept; marked = λ (z : ◌≡◌ {A = ℕ} 0 0). search rules }
