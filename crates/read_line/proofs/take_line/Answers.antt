-- `read_line::take_line` meets its contract: by the line and the place.
-- Assumes nothing.
use mathlib.Core.Path.{sym, ◌∙◌}
use Rattle.base.proofs.IfLaws.{chain}
use Rattle.read_line.proofs.ResultLaws.{by_steps}
use borrow.Author.Rules.{rules}
use Rattle.read_line.proofs.take_line.Goals as goal

pub returns-then-is_blank_line : goal.returns-then-is_blank_line
returns-then-is_blank_line c = by_steps _ _ _ (search chain depth 10)

pub returns-then-s-eq-DONE : goal.returns-then-s-eq-DONE
returns-then-s-eq-DONE c = by_steps _ _ _ (search chain depth 10)

pub returns-then-s-eq-BEFORE : goal.returns-then-s-eq-BEFORE
returns-then-s-eq-BEFORE c = by_steps _ _ _ (search chain depth 10)

pub bracket_step-requires : goal.bracket_step-requires
bracket_step-requires c = (search rules, search rules, λ e. c.requires.2 (sym c.is_blank_line.ensures ∙ c.if-is_blank_line.false) (sym c.requires.1 ∙ e))

pub returns : goal.returns
returns c = by_steps _ _ _ (search chain depth 10)
