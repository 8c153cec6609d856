-- Laws of the head: what it contains after each kind of line.
-- Assumes nothing.
use mathlib.Core.Path.{◌≡◌, sym, ◌∙◌}
use mathlib.Core.Bool.{false}
use native.Mathlib.Omega.{arith}
use borrow.Author.Tests.{eq-eqb, ne_eqb}
use Rattle.base.proofs.IfLaws.{if_true, if_false}
use Rattle.base.proofs.BrokenLaws.{all_kept}
use Rattle.line_head.specs.Head.{says_model_type, says_ratio, is_head_out_of_order, head_rules}
use Rattle.line_head.specs.Way.Rule.{head_rule}
use Rattle.line_head.specs.declared.Head.{Head}
use Rattle.line_head.specs.declared.HeadLine.{HeadLine}

module _ (l : HeadLine) (h : Head) where
  -- "repeated or out of order 12": of an SGR line that breaks no rule the head has had none
  pub sgr_once : head_rule l h ≡ 0 → l.says ≡ says_ratio → h.sgr ≡ false
  unfolding head_rule is_head_out_of_order
  sgr_once kept e =
      sym
      (if_false _ _ (ne_eqb l.says says_model_type (λ (f : l.says ≡ says_model_type). omega arith)) ∙ if_true _ _ (eq-eqb l.says says_ratio e))
      ∙ all_kept (head_rules l h) (omega arith, (omega arith, (omega arith, (omega arith, tt)))) kept 1
