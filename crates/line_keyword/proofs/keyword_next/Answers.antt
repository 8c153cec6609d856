-- `line_keyword::keyword_next` meets its contract: what the calls answered, part by part.
-- Assumes nothing.
use Rattle.line_keyword.proofs.BlockLaws.{next_parts}
use Rattle.line_keyword.proofs.keyword_next.Goals as goal

pub counts_after-requires : goal.counts_after-requires
counts_after-requires c = c.requires.1

pub returns : goal.returns
returns c = search next_parts
