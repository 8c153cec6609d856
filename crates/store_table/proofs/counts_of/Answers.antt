-- `store_table::counts_of` meets its contract.
-- Assumes nothing.
use Rattle.doc.specs.Way.Holds.{counts_of}
use borrow.Author.Rules.{rules}
use Rattle.store_table.proofs.counts_of.Goals as goal

pub returns : goal.returns
unfolding counts_of
returns c = search rules
