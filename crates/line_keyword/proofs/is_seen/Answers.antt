-- `line_keyword::is_seen` meets its contract: past the last keyword nothing is read.
-- Assumes nothing.
use Rattle.line_keyword.specs.Keywords.{is_seen}
use Rattle.line_keyword.proofs.BlockLaws.{unseen}
use borrow.Author.Rules.{rules}
use Rattle.line_keyword.proofs.is_seen.Goals as goal

pub returns-then-key-ge40 : goal.returns-then-key-ge40
returns-then-key-ge40 c = search (unseen, rules)

pub returns : goal.returns
unfolding is_seen
returns c = search rules
