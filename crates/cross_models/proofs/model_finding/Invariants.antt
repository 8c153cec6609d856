-- `cross_models::model_finding` meets its contract. The loop's invariant: the models left give what all of them break first.
-- Assumes nothing.
use Rattle.cross_models.proofs.WalkLaws.{ModelsLeft}
use Rattle.cross_models.proofs.model_finding.Given as goal

abbrev pub invariant-loop-i : goal.invariant-loop-i
invariant-loop-i l = ModelsLeft l.text l.marks l.i
