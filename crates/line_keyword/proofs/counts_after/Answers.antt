-- `line_keyword::counts_after` meets its contract: what the calls answered, count by count.
-- Assumes nothing.
use Rattle.line_keyword.proofs.BlockLaws.{counts_told}
use Rattle.line_keyword.proofs.counts_after.Goals as goal

pub returns : goal.returns
returns c = search counts_told
