-- The table of a text: the code of the rules 19 to 29 needs it.
-- Assumes nothing.
use Rattle.std.specs.Prelude.{ℕ, ◌-◌, ◌≡◌, List, ◌++◌, length, replicate}
use Rattle.line_keyword.specs.declared.Counts.{Counts}
use Rattle.read_line.specs.Reading.{reading_of}
use Rattle.read_line.specs.declared.Reading.TheVariants.{Read}
use Rattle.doc.specs.Records.{table_of}

-- the text breaks no rule of the reading (5 to 17), and the table is the text's layout followed by zeros
pub record HoldsText (t table : List ℕ) : Type 0 where
  pub counts : Counts
  pub reads : reading_of t ≡ Read counts
  pub words : table ≡ table_of t ++ replicate (length table - length (table_of t)) 0
