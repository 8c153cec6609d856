-- `line_keyword::start_state` meets its contract: what the calls answered, part by part.
-- Assumes nothing.
use Rattle.line_keyword.specs.State.{none_seen, no_counts, new_section}
use Rattle.line_keyword.proofs.BlockLaws.{start_told}
use Rattle.line_keyword.proofs.start_state.Goals as goal

pub returns : goal.returns
unfolding none_seen no_counts new_section
returns c = search start_told
