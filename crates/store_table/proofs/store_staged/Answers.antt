-- `store_table::store_staged` meets its contract: the values are moved, and the other parts stored before them.
-- Assumes nothing.
use Rattle.store_table.proofs.StoreLaws.{many_few, values_small, lift_room, family_room, sections_room, stored}
use borrow.Author.Rules.{rules}
use Rattle.store_table.proofs.store_staged.Goals as goal

pub overflow_mul-staged : goal.overflow_mul-staged
overflow_mul-staged c = search values_small

pub part_base-begin-requires : goal.part_base-begin-requires
part_base-begin-requires c = (search many_few, search rules)

pub lift-requires : goal.lift-requires
lift-requires c = search lift_room

pub put_family-at-requires : goal.put_family-at-requires
put_family-at-requires c = family_room _ _ c.requires.0 _ _ _ _ _ _ _ c.requires.3 c.requires.2 c.requires.1
    _ c.counts_of.ensures _ c.part_base-begin.ensures _ c.lift.ensures

pub put_sections-requires : goal.put_sections-requires
put_sections-requires c = sections_room _ _ c.requires.0 _ _ _ _ _ _ _ c.requires.3 c.requires.2 c.requires.1
    _ c.counts_of.ensures _ c.part_base-begin.ensures _ c.lift.ensures _ _ c.put_family-at.ensures

pub returns : goal.returns
returns c = stored _ _ c.requires.0 _ _ _ _ _ _ _ c.requires.3 c.requires.2 c.requires.1
    _ c.counts_of.ensures _ c.part_base-begin.ensures _ c.lift.ensures _ _ c.put_family-at.ensures _ c.put_sections.ensures
