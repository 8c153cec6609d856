-- `line_keyword::path_after` meets its contract: each `return` by the tests that led there.
-- Assumes nothing.
use Rattle.base.proofs.IfLaws.{chain}
use Rattle.line_keyword.specs.Keywords.{path_after}
use Rattle.line_keyword.proofs.path_after.Goals as goal

pub returns-then-key-eq-TREE_PATH_DESCRIPTION : goal.returns-then-key-eq-TREE_PATH_DESCRIPTION
unfolding path_after
returns-then-key-eq-TREE_PATH_DESCRIPTION c = search chain depth 14 fits 4000

pub returns : goal.returns
unfolding path_after
returns c = search chain depth 14 fits 4000
