-- A section's whole matrix of a kind: every entry of its N rows and N columns, row by row. Document 01: "Entries not
-- written, and kinds not given, are zero; entry (j,i) is entry (i,j)."
-- Assumes nothing.
use Rattle.std.specs.Prelude.{ℕ, zero, suc, ◌+◌, ◌*◌, Bool, true, false, not, List, [], ◌∷◌, ◌++◌, get_or, ltb}
use Rattle.std.proofs.lemmas.List.Edits.{sets}
use Rattle.table_record.specs.Records.{Records, records_of, no_section}
use Rattle.base.specs.If.{provided◌then◌else◌}
use Rattle.base.specs.Refusal as refusal
use Rattle.ask_sound.specs.Sound.{is_sound}
use Rattle.ask_entry.specs.Entry.{matrix_index, entry_of, is_in_range}
use Rattle.ask_entry.specs.declared.WholeAnswer.{WholeAnswer}
use Rattle.ask_entry.specs.declared.WholeAnswer.TheVariants.{Found, Short, Refused}

-- ---- the answer

-- the words of the answer: "refused, they return the number and line 0, every other word 0". If `found` is false and
-- `rule` is 0, the lent room is shorter than N times N words; `conductors` is then N.
pub record MatrixWords : Type 0 where
  pub found : Bool
  pub rule : ℕ
  pub line : ℕ
  pub conductors : ℕ

abbrev pub found_of : ℕ → MatrixWords
found_of conductors = record { found = true; rule = 0; line = 0; conductors = conductors }

abbrev pub short_of : ℕ → MatrixWords
short_of conductors = record { found = false; rule = 0; line = 0; conductors = conductors }

abbrev pub matrix_refused : ℕ → MatrixWords
matrix_refused rule = record { found = false; rule = rule; line = 0; conductors = 0 }

-- the paper's number and words for each case
abbrev pub whole_words : WholeAnswer → MatrixWords
whole_words (Found conductors) = found_of conductors
whole_words (Short conductors) = short_of conductors
whole_words (Refused rule) = matrix_refused rule

-- ---- the entries of a matrix, given the matrix's index plus 1

-- the next entries of a row, from `column` on; the last argument is their number
unfoldable pub row_from : Records → ℕ → ℕ → ℕ → ℕ → List ℕ
row_from r index row column zero = []
row_from r index row column (suc left) = entry_of r index row column ∷ row_from r index row (column + 1) left

-- the next rows of N columns, from `row` on; the last argument is their number
unfoldable pub rows_from : Records → ℕ → ℕ → ℕ → ℕ → List ℕ
rows_from r index conductors row zero = []
rows_from r index conductors row (suc left) = row_from r index row 1 conductors ++ rows_from r index conductors (row + 1) left

unfoldable pub square_of : Records → ℕ → ℕ → List ℕ
square_of r index conductors = rows_from r index conductors 1 conductors

-- ---- the whole

-- N of a section
unfoldable pub section_conductors : Records → ℕ → ℕ
section_conductors r section = (get_or r.sections section no_section).conductors

-- "31 NOSUCH: section, kind .. out of range": every section of a sound table has a row 1 and a column 1. Then whether
-- `room` words are enough. For the records of a sound table
unfoldable pub matrix_from : Records → ℕ → ℕ → ℕ → MatrixWords
matrix_from r section kind room =
    provided not (is_in_range r section kind 1 1) then matrix_refused refusal.no_such else
    provided ltb room (section_conductors r section * section_conductors r section) then short_of (section_conductors r section)
    else found_of (section_conductors r section)

-- "30 TABLE: question over an unsound table"
unfoldable pub matrix_answer : List ℕ → List ℕ → ℕ → ℕ → ℕ → MatrixWords
matrix_answer t table section kind room =
    provided not (is_sound t table) then matrix_refused refusal.table else matrix_from (records_of table) section kind room

-- the room after an answer: the entries from its start on if the matrix was found, else unchanged
unfoldable pub room_after : List ℕ → ℕ → ℕ → MatrixWords → List ℕ → List ℕ
room_after table section kind answer room =
    provided answer.found then
    sets room 0 (square_of (records_of table) (matrix_index (get_or (records_of table).sections section no_section) kind) answer.conductors)
    else room
