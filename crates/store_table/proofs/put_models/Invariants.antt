-- `store_table::put_models` meets its contract. The loop's invariant: with the models that are left the table is the one that is wanted.
-- Assumes nothing.
use Rattle.table_layout.specs.Layout.{model_width}
use Rattle.table_record.specs.Way.Stage.{staged_model_width, staged_model_at}
use Rattle.store_table.specs.Way.Front.{model_stored}
use Rattle.store_table.proofs.StoringLaws.{Storing}
use Rattle.store_table.proofs.put_models.Given as goal

abbrev pub invariant-loop-i : goal.invariant-loop-i
invariant-loop-i l = Storing (staged_model_at l.models) staged_model_width model_stored model_width l.count 1 l.initial.table l.i l.table
