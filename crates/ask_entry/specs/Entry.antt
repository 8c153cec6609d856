-- Document 01: the question "entry (text, table, section, kind R L G C, row, column: a value word)". "Entries not written, and kinds not
-- given, are zero; entry (j,i) is entry (i,j)."
-- Assumes nothing.
use Rattle.std.specs.Prelude.{Result, Ok, Err, ℕ, ◌-◌, min, max, Bool, true, false, not, List, [], ◌∷◌, length, get_or, ltb, eqb}
use Rattle.table_record.specs.Records.{Records, records_of, range, no_section, no_matrix}
use Rattle.table_record.specs.declared.Value.{Value}
use Rattle.table_record.specs.declared.MatrixRecord.{MatrixRecord}
use Rattle.table_record.specs.declared.SectionRecord.{SectionRecord}
use Rattle.base.specs.If.{provided◌then◌else◌, both}
use Rattle.base.specs.Refusal as refusal
use Rattle.table_layout.specs.Codes.{resistance_kind, inductance_kind, conductance_kind, matrix_kinds}
use Rattle.base.specs.Bytes.{within}
use Rattle.lex_number.specs.ValueWord.{zero_word}
use Rattle.ask_sound.specs.Sound.{is_sound}

-- the words of the answer: "refused, they return the number and line 0, every other word 0"; `found` is false for a refusal
pub record EntryWords : Type 0 where
  pub found : Bool
  pub rule : ℕ
  pub line : ℕ
  pub word : ℕ

abbrev pub found_with : ℕ → EntryWords
found_with word = record { found = true; rule = 0; line = 0; word = word }

abbrev pub entry_refused : ℕ → EntryWords
entry_refused rule = record { found = false; rule = rule; line = 0; word = 0 }

-- the paper's number and words for each case
abbrev pub entry_words : Result ℕ ℕ → EntryWords
entry_words (Ok word) = found_with word
entry_words (Err rule) = entry_refused rule

-- ---- one entry

-- "R L G C each matrix index plus 1 or 0"
unfoldable pub matrix_index : SectionRecord → ℕ → ℕ
matrix_index s kind =
    provided eqb kind resistance_kind then s.resistance else
    provided eqb kind inductance_kind then s.inductance else
    provided eqb kind conductance_kind then s.conductance else s.capacitance

-- the value word written for a row and a column; zero if none is written
unfoldable pub word_at : ℕ → ℕ → List Value → ℕ
word_at row column [] = zero_word
word_at row column (v ∷ vs) = provided both (eqb v.row row) (eqb v.column column) then v.word else word_at row column vs

-- the values of a matrix
unfoldable pub matrix_values : Records → MatrixRecord → List Value
matrix_values r m = range m.first m.values r.values

-- the entry of a matrix, given the matrix's index plus 1; 0 means that the kind is not given
unfoldable pub entry_of : Records → ℕ → ℕ → ℕ → ℕ
entry_of r index row column =
    provided eqb index 0 then zero_word else word_at (min row column) (max row column) (matrix_values r (get_or r.matrices (index - 1) no_matrix))

-- "section, kind, row, column (1 to N)"
unfoldable pub is_in_range : Records → ℕ → ℕ → ℕ → ℕ → Bool
is_in_range r section kind row column =
    both (ltb section (length r.sections))
    (both (ltb kind matrix_kinds)
    (both (within 1 (get_or r.sections section no_section).conductors row)
    (within 1 (get_or r.sections section no_section).conductors column)))

-- "31 NOSUCH: section, kind, row, column (1 to N) .. out of range"; for the records of a sound table
unfoldable pub entry_from : Records → ℕ → ℕ → ℕ → ℕ → EntryWords
entry_from r section kind row column =
    provided not (is_in_range r section kind row column) then entry_refused refusal.no_such else
    found_with (entry_of r (matrix_index (get_or r.sections section no_section) kind) row column)

-- "30 TABLE: question over an unsound table"
unfoldable pub entry_answer : List ℕ → List ℕ → ℕ → ℕ → ℕ → ℕ → EntryWords
entry_answer t table section kind row column =
    provided not (is_sound t table) then entry_refused refusal.table else entry_from (records_of table) section kind row column
