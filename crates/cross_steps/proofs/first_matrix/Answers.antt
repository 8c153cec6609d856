-- `cross_steps::first_matrix` meets its contract.
-- Assumes nothing.
use Rattle.cross_steps.proofs.RuleLaws.{first_behind, first_least}
use Rattle.cross_steps.proofs.first_matrix.Goals as goal

pub returns-then-counts-index : goal.returns-then-counts-index
returns-then-counts-index c = search first_behind

pub returns : goal.returns
returns c = search first_least
