-- `store_table::put_steps` meets its contract. The loop's invariant: with the steps that are left the table is the one that is wanted.
-- Assumes nothing.
use Rattle.table_layout.specs.Layout.{step_width}
use Rattle.table_record.specs.Way.Stage.{staged_step_width, staged_step_at}
use Rattle.store_table.specs.Way.Front.{step_stored}
use Rattle.store_table.proofs.StoringLaws.{Storing}
use Rattle.store_table.proofs.put_steps.Given as goal

abbrev pub invariant-loop-i : goal.invariant-loop-i
invariant-loop-i l = Storing (staged_step_at l.steps) staged_step_width (step_stored l.text (record { maps = l.maps; map_count = l.map_count; sections = l.sections; section_count = l.section_count })) step_width l.count l.at l.initial.table l.i l.table
