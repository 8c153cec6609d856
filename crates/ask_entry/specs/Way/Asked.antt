-- The row and column asked for, as a value to compare with others.
-- Assumes nothing.
use Rattle.std.specs.Prelude.{ℕ}
use Rattle.table_record.specs.declared.Value.{Value}

abbrev pub asked : ℕ → ℕ → Value
asked row column = record { row = row; column = column; word = 0 }
