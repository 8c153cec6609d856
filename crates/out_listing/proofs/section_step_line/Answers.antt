-- `out_listing::section_step_line` meets its contract.
-- Assumes nothing.
use Rattle.out_listing.proofs.TextLaws.{section_step_written}
use Rattle.out_listing.proofs.section_step_line.Goals as goal

pub returns : goal.returns
returns c = search section_step_written
