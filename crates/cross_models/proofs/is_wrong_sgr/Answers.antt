-- `cross_models::is_wrong_sgr` meets its contract.
-- Assumes nothing.
use Rattle.cross_models.proofs.SgrLaws.{none_right, told_by_type}
use Rattle.cross_models.proofs.is_wrong_sgr.Goals as goal

pub returns-then-staged-eq0 : goal.returns-then-staged-eq0
returns-then-staged-eq0 c = search none_right

pub returns : goal.returns
returns c = search told_by_type
