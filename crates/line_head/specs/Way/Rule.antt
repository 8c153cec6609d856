-- The number of the first rule that a line of a model's head breaks, 0 for none, as code tells it.
-- Assumes nothing.
use Rattle.std.specs.Prelude.{ℕ}
use Rattle.base.specs.Broken.{first_broken}
use Rattle.line_head.specs.Head.{head_rules}
use Rattle.line_head.specs.declared.Head.{Head}
use Rattle.line_head.specs.declared.HeadLine.{HeadLine}

unfoldable pub head_rule : HeadLine → Head → ℕ
head_rule l h = first_broken (head_rules l h)
