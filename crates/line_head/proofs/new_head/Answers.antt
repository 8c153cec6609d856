-- `line_head::new_head` meets its contract.
-- Assumes nothing.
use borrow.Author.Rules.{rules}
use Rattle.line_head.specs.Head.{new_head}
use Rattle.line_head.proofs.new_head.Goals as goal

pub returns : goal.returns
unfolding new_head
returns c = search rules
