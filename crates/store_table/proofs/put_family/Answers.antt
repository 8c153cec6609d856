-- `store_table::put_family` meets its contract.
-- Assumes nothing.
use Rattle.store_table.proofs.FrontLaws.{family_put}
use Rattle.store_table.proofs.put_family.Goals as goal

pub returns : goal.returns
returns c = family_put _ _ _ _ _ _ _ c.requires.0 _ _ _
    c.put_models-steps_at.ensures _ _
    c.put_count.ensures
    c.put_steps.ensures _ _
    c.put_part-pins_at.ensures _ _
    c.put_part.ensures
