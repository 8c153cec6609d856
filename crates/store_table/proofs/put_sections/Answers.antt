-- `store_table::put_sections` meets its contract.
-- Assumes nothing.
use Rattle.store_table.proofs.FrontLaws.{sections_put}
use Rattle.store_table.proofs.put_sections.Goals as goal

pub returns : goal.returns
returns c = sections_put _ _ _ c.requires.0 c.requires.1 _ _ _ _ _ _
    c.put_part-matrices_at.ensures
    c.put_part-values_at.ensures _ c.put_count.ensures
