-- `line_path::is_step` meets its contract.
-- Assumes nothing.
use borrow.Author.Rules.{rules}
use Rattle.line_path.specs.Path.{is_step_line}
use Rattle.line_path.proofs.is_step.Goals as goal

pub returns : goal.returns
unfolding is_step_line
returns c = search rules
