-- `line_path::path_open` meets its contract.
-- Assumes nothing.
use borrow.Author.Rules.{rules}
use Rattle.line_path.specs.Path.{path_open}
use Rattle.line_path.proofs.path_open.Goals as goal

pub returns : goal.returns
unfolding path_open
returns c = search rules
