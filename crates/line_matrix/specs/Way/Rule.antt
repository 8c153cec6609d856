-- The number of the first rule that a line of data breaks, 0 for none, as code tells it.
-- Assumes nothing.
use Rattle.std.specs.Prelude.{ℕ}
use Rattle.base.specs.Broken.{first_broken}
use Rattle.line_matrix.specs.Matrix.{data_rules}
use Rattle.line_matrix.specs.declared.DataLine.{DataLine}
use Rattle.line_matrix.specs.declared.Matrix.{Matrix}

unfoldable pub data_rule : DataLine → Matrix → ℕ → ℕ
data_rule l m values = first_broken (data_rules l m values)
