-- The view by which the listing reads a table.
-- Assumes nothing.
use Rattle.std.specs.Prelude.{ℕ, List, replicate, unwrap_or}
use Rattle.table_layout.specs.Layout.{part_count}
use Rattle.table_layout.specs.View.{view_of}
use Rattle.table_layout.specs.declared.View.{View}

-- where the records that are shown begin, and how many they are: none, if the table does not fit
abbrev pub no_view : View
no_view = record { bases = replicate part_count 0; counts = replicate part_count 0; end = 0 }

abbrev pub shown_view : List ℕ → View
shown_view table = unwrap_or (view_of table) no_view
