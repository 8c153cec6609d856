-- The number of the first rule that a line of a path breaks, 0 for none, as code tells it.
-- Assumes nothing.
use Rattle.std.specs.Prelude.{ℕ}
use Rattle.base.specs.Broken.{first_broken}
use Rattle.line_path.specs.Path.{open_rules, closed_rules, path_rules}
use Rattle.line_path.specs.declared.Path.{Path}
use Rattle.line_path.specs.declared.PathLine.{PathLine}

unfoldable pub open_rule : PathLine → Path → ℕ → ℕ
open_rule l p steps = first_broken (open_rules l p steps)

unfoldable pub closed_rule : PathLine → Path → ℕ
closed_rule l p = first_broken (closed_rules l p)

unfoldable pub path_rule : PathLine → Path → ℕ → ℕ
path_rule l p steps = first_broken (path_rules l p steps)
