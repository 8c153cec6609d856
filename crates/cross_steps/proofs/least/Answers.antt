-- `cross_steps::least` meets its contract.
-- Assumes nothing.
use Rattle.cross_steps.proofs.RuleLaws.{least_told}
use Rattle.cross_steps.proofs.least.Goals as goal

pub returns : goal.returns
returns c = search least_told
