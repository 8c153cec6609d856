-- `read_sections::read_data` meets its contract. The lines of the matrix, and then the line that ends it.
-- Assumes nothing.
use Rattle.read_sections.proofs.WalkLaws.{data_broken, data_ends, data_onward, data_late, data_last, data_kind, data_goes}
use Rattle.read_sections.proofs.read_data.Goals as goal

pub returns-then-part-ne0 : goal.returns-then-part-ne0
returns-then-part-ne0 c = data_broken _ _ _ _ c.requires.1 c.requires.2 _ _ _ _ _ _ c.pass_data-walk.ensures c.if-part-ne0.true

pub returns-then-text-walk : goal.returns-then-text-walk
returns-then-text-walk c = data_ends _ _ _ _ c.requires.1 c.requires.2 _ _ _ _ _ _ c.pass_data-walk.ensures
    c.if-part-ne0.false c.if-text-walk.true

pub close_matrix-closed-requires : goal.close_matrix-closed-requires
close_matrix-closed-requires c = c.requires.3

pub read_alone-requires : goal.read_alone-requires
read_alone-requires c = let pre = c.requires in
    let passed = c.pass_data-walk.ensures in
    let kept = c.if-part-ne0.false in
    let there = c.if-text-walk.false in (
      there,
      data_onward _ _ _ _ pre.1 pre.2 _ _ _ passed kept,
      data_late _ pre.2,
      λ e. data_last _ _ _ _ pre.1 pre.2 _ _ _ passed kept there,
      data_kind _ _ _ _ c.close_matrix-closed.ensures.1 pre.3,
    )

pub returns : goal.returns
returns c = let pre = c.requires in
    data_goes _ _ _ _ pre.1 pre.2 _ _ _ _ _ _ c.pass_data-walk.ensures
    c.if-part-ne0.false c.if-text-walk.false pre.3 _ c.close_matrix-closed.ensures.0 _
    c.close_matrix-closed.ensures.1 _ _ c.read_alone.ensures.0 c.read_alone.ensures.1
