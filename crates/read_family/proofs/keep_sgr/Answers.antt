-- `read_family::keep_sgr` meets its contract.
-- Assumes nothing.
use Rattle.read_family.proofs.OpenLaws.{sgr_unsaid, sgr_above, sgr_said}
use Rattle.read_family.proofs.keep_sgr.Goals as goal

pub returns-then-not-after : goal.returns-then-not-after
returns-then-not-after c = search sgr_unsaid

pub returns-then-before : goal.returns-then-before
returns-then-before c = search sgr_above

pub returns : goal.returns
returns c = search sgr_said
