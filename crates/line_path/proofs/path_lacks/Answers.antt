-- `line_path::path_lacks` meets its contract.
-- Assumes nothing.
use borrow.Author.Rules.{rules}
use Rattle.line_path.specs.Path.{path_lacks}
use Rattle.line_path.proofs.path_lacks.Goals as goal

pub returns : goal.returns
unfolding path_lacks
returns c = search rules
