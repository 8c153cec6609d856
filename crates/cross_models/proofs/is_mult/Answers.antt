-- `cross_models::is_mult` meets its contract.
-- Assumes nothing.
use Rattle.cross_models.proofs.StepsLaws.{mult_told}
use Rattle.cross_models.proofs.is_mult.Goals as goal

pub returns : goal.returns
returns c = search mult_told
