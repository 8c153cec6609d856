-- `line_path::new_path` meets its contract.
-- Assumes nothing.
use borrow.Author.Rules.{rules}
use Rattle.line_path.specs.Path.{new_path}
use Rattle.line_path.proofs.new_path.Goals as goal

pub returns : goal.returns
unfolding new_path
returns c = search rules
