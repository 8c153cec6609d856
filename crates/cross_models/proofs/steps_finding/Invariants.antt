-- `cross_models::steps_finding` meets its contract. The loop's invariant: what is left of the steps, with the models behind, gives the whole.
-- Assumes nothing.
use Rattle.cross_models.proofs.StepsLaws.{StepsLeft}
use Rattle.cross_models.proofs.steps_finding.Given as goal

abbrev pub invariant-loop-i : goal.invariant-loop-i
invariant-loop-i l = StepsLeft l.text l.table l.view l.marks l.index l.owner l.count l.i
