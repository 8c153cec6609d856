-- A table as the listing reads it: the records that it shows, and the section and kind of each matrix. No word of the table
-- is trusted: a table whose counts do not fit shows no record, and a record that does not exist reads as zeros.
-- Assumes nothing.
use Rattle.std.specs.Prelude.{ℕ, zero, suc, ◌+◌, ◌-◌, min, List, length, get_or, is_some, ltb, eqb}
use Rattle.base.specs.If.{provided◌then◌else◌}
use Rattle.table_layout.specs.Codes.{resistance_kind, inductance_kind, conductance_kind, capacitance_kind, matrix_kinds}
use Rattle.table_layout.specs.View.{view_of}
use Rattle.table_record.specs.declared.SectionRecord.{SectionRecord}
use Rattle.table_record.specs.declared.MatrixRecord.{MatrixRecord}
use Rattle.table_record.specs.Records.{Records, records_of, no_records, no_section}

unfoldable pub shown : List ℕ → Records
shown table = provided is_some (view_of table) then records_of table else no_records

-- the kind of matrix j in a section; `matrix_kinds` if the section does not have it. "R L G C each matrix index plus 1 or 0"
unfoldable pub kind_in : ℕ → SectionRecord → ℕ
kind_in j s =
    provided eqb s.resistance (j + 1) then resistance_kind else
    provided eqb s.inductance (j + 1) then inductance_kind else
    provided eqb s.conductance (j + 1) then conductance_kind else
    provided eqb s.capacitance (j + 1) then capacitance_kind else matrix_kinds

-- the first of `many` sections from section i on that has matrix j; the index after them if none has
unfoldable pub owner_from : Records → ℕ → ℕ → ℕ → ℕ
owner_from r j zero i = i
owner_from r j (suc many) i = provided ltb (kind_in j (get_or r.sections i no_section)) matrix_kinds then i else owner_from r j many (i + 1)

unfoldable pub owner_of : Records → ℕ → ℕ
owner_of r j = owner_from r j (length r.sections) 0

-- how many values a matrix has inside the table
unfoldable pub values_in : Records → MatrixRecord → ℕ
values_in r m = min m.values (length r.values - m.first)
