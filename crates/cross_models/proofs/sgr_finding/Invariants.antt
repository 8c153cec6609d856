-- `cross_models::sgr_finding` meets its contract. The loop's invariant: the models left give the first wrong SGR of all.
-- Assumes nothing.
use Rattle.cross_models.proofs.SgrLaws.{SgrLeft}
use Rattle.cross_models.proofs.sgr_finding.Given as goal

abbrev pub invariant-loop-i : goal.invariant-loop-i
invariant-loop-i l = SgrLeft l.models l.count l.i
