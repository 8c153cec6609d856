-- `line_head::wrong_line` meets its contract.
-- Assumes nothing.
use borrow.Author.Rules.{rules}
use Rattle.line_head.specs.Head.{wrong_head_line}
use Rattle.line_head.proofs.wrong_line.Goals as goal

pub returns : goal.returns
unfolding wrong_head_line
returns c = search rules
