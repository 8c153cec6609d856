-- `doc::start` meets its contract.
-- Assumes nothing.
use Rattle.doc.specs.Way.Found.{cursor_start}
use borrow.Author.Rules.{rules}
use Rattle.doc.proofs.start.Goals as goal

pub returns : goal.returns
unfolding cursor_start
returns c = search rules
