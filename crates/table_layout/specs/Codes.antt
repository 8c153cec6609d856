-- Document 01, "The table": "enumerations in the order listed above", each from 0.
-- Assumes nothing.
use Rattle.std.specs.Prelude.{ℕ}

-- "kind 0 end 1 section 2 fork 3 endfork"
abbrev pub end_kind : ℕ
end_kind = 0

abbrev pub section_kind : ℕ
section_kind = 1

abbrev pub fork_kind : ℕ
fork_kind = 2

abbrev pub endfork_kind : ℕ
endfork_kind = 3

abbrev pub step_kinds : ℕ
step_kinds = 4

-- the type of a model: "SLM_general, SLM_quiescent or MLM"
abbrev pub slm_general : ℕ
slm_general = 0

abbrev pub slm_quiescent : ℕ
slm_quiescent = 1

abbrev pub mlm : ℕ
mlm = 2

abbrev pub model_types : ℕ
model_types = 3

-- the order of a map: "Row_ordered, Column_ordered or Un_ordered"
abbrev pub row_ordered : ℕ
row_ordered = 0

abbrev pub column_ordered : ℕ
column_ordered = 1

abbrev pub un_ordered : ℕ
un_ordered = 2

abbrev pub map_orders : ℕ
map_orders = 3

-- the method of a section: "Lumped or Distributed"
abbrev pub lumped : ℕ
lumped = 0

abbrev pub distributed : ℕ
distributed = 1

abbrev pub section_methods : ℕ
section_methods = 2

-- the kind of a matrix: "R L G C"
abbrev pub resistance_kind : ℕ
resistance_kind = 0

abbrev pub inductance_kind : ℕ
inductance_kind = 1

abbrev pub conductance_kind : ℕ
conductance_kind = 2

abbrev pub capacitance_kind : ℕ
capacitance_kind = 3

abbrev pub matrix_kinds : ℕ
matrix_kinds = 4

-- "form 0 diagonal 1 banded 2 sparse 3 full"
abbrev pub diagonal : ℕ
diagonal = 0

abbrev pub banded : ℕ
banded = 1

abbrev pub sparse : ℕ
sparse = 2

abbrev pub full : ℕ
full = 3

abbrev pub matrix_forms : ℕ
matrix_forms = 4
