-- `cross_steps::mark_of` meets its contract.
-- Assumes nothing.
use Rattle.cross_steps.proofs.MarkLaws.{mark_told}
use Rattle.cross_steps.proofs.mark_of.Goals as goal

pub returns : goal.returns
returns c = search mark_told
