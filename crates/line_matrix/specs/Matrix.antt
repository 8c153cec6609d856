-- Document 01, "Sections and matrices": the rows and numbers of a matrix in its four forms, and its shape.
--
-- What is remembered of the open matrix is the struct `Matrix` of src/lib.rt: its `form`; `band`, the most numbers that
-- a row may have; `first`, how many values the file had before it; and its rows. Of these (`Rows`) are remembered `row`,
-- the number of the last [Row], 0 before the first; `above`, how many numbers the row above it has; `from`, how many
-- values the file had before the row; `least`, the least column that may come next in a Sparse_matrix; `greatest`, the
-- greatest row or column named; and `fits`, whether all rows that have ended are of the right length.
-- What a data line says is a `DataLine`: how many `numbers` it writes; the `column` of a sparse line; whether it has the
-- `right` count of words; whether these are numbers (`formed`) and within their bounds (`bounded`).
-- `values` is how many values have been read in the whole file, so that the numbers of a row are those since `from`.
-- Assumes nothing.
use Rattle.std.specs.Prelude.{ℕ, ◌+◌, ◌-◌, min, max, Bool, true, false, not, List, [], ◌∷◌, length, leb, ltb, eqb, Option, is_some, unwrap_or}
use Rattle.table_layout.specs.Codes.{diagonal, banded, sparse, full}
use Rattle.table_layout.specs.Bounds.{most_values, most_conductors}
use Rattle.base.specs.If.{provided◌then◌else◌, both, either}
use Rattle.base.specs.Broken.{Rule, ◌when◌}
use Rattle.base.specs.Refusal as refusal
use Rattle.lex_line.specs.Words.{words, first_of, second_of}
use Rattle.lex_number.specs.Number.{number_of, is_formed, is_bounded}
use Rattle.lex_number.specs.Integer.{whole_of, is_whole_within}
use Rattle.line_matrix.specs.declared.Matrix.{Matrix}
use Rattle.line_matrix.specs.declared.DataLine.{DataLine}
use Rattle.line_matrix.specs.declared.NumberCheck.{NumberCheck}

-- a matrix of this form before its first row and number. `band` is the most numbers that a row may have: B + 1 in a
-- Banded_matrix, 0 before its [Bandwidth]; in a Full_matrix 256, so that it is no limit
unfoldable pub new_matrix : ℕ → ℕ → Matrix
new_matrix form values =
    record {
      form = form;
      band = provided eqb form full then most_conductors else 0;
      first = values;
      rows = record { row = 0; above = 0; from = values; least = 0; greatest = 0; fits = true };
    }

-- ---- [Row] and [Bandwidth]

-- "[Bandwidth] B, then [Row] 1 to N"
unfoldable pub is_wrong_bandwidth : Matrix → Bool
is_wrong_bandwidth m = either (not (eqb m.form banded)) (either (not (eqb m.band 0)) (not (eqb m.rows.row 0)))

-- "[Row] 1 to N in order"; "rising [Row]s"; a Diagonal_matrix has none
unfoldable pub is_wrong_row : ℕ → Matrix → Bool
is_wrong_row row m =
    provided eqb m.form diagonal then true else
    provided eqb m.form sparse then leb row m.rows.row else
    either (eqb m.band 0) (not (eqb row (m.rows.row + 1)))

unfoldable pub with_bandwidth : ℕ → Matrix → Matrix
with_bandwidth b m = record { form = m.form; band = b + 1; first = m.first; rows = m.rows }

-- how many numbers the present row has so far
unfoldable pub in_row : Matrix → ℕ → ℕ
in_row m values = values - m.rows.from

-- "row i has N-i+1 numbers", "row i has 1+min(B, N-i)", told as the row ends and without N, which only the last row
-- tells: that row has one number, and every other has one more than the row below it, or as many as the band allows
-- if these are fewer. So the row above the one that ends is asked for; the first row has none above it
unfoldable pub stands_above : Matrix → ℕ → Bool
stands_above m values = either (ltb m.rows.row 2) (eqb m.rows.above (min m.band (in_row m values + 1)))

-- everything so far fits, including the row that ends at the next [Row]
unfoldable pub still_fits : Matrix → ℕ → Bool
still_fits m values = both m.rows.fits (either (eqb m.form sparse) (stands_above m values))

unfoldable pub with_row : ℕ → Matrix → ℕ → Matrix
with_row row m values =
    record {
      form = m.form;
      band = m.band;
      first = m.first;
      rows =
          record {
            row = row;
            above = in_row m values;
            from = values;
            least = row;
            greatest = max m.rows.greatest row;
            fits = still_fits m values;
          };
    }

-- ---- data lines

-- whether a word is a number, and whether the number is within its bounds
unfoldable pub number_check : List ℕ → NumberCheck
number_check w = record { formed = is_formed (number_of w); bounded = is_bounded (number_of w) }

-- every word is a number; every number is within its bounds
unfoldable pub are_formed : List (List ℕ) → Bool
are_formed [] = true
are_formed (w ∷ ws) = both (number_check w).formed (are_formed ws)

unfoldable pub are_bounded : List (List ℕ) → Bool
are_bounded [] = true
are_bounded (w ∷ ws) = both (number_check w).bounded (are_bounded ws)

-- "Numbers may run over lines": a line of numbers
unfoldable pub numbers_line : List (List ℕ) → DataLine
numbers_line ws = record { numbers = length ws; column = 0; right = true; formed = are_formed ws; bounded = are_bounded ws }

-- a sparse line: its column, and the check of the word after it
abbrev pub pair_line : Option ℕ → NumberCheck → DataLine
pair_line column check =
    record {
      numbers = 1;
      column = unwrap_or column 0;
      right = true;
      formed = both (is_some column) check.formed;
      bounded = both (is_whole_within 1 most_conductors column) check.bounded;
    }

-- "lines `column value`": columns 1 to 256
unfoldable pub sparse_line : List (List ℕ) → DataLine
sparse_line ws =
    provided eqb (length ws) 2
    then pair_line (whole_of (first_of ws)) (number_check (second_of ws))
    else record { numbers = 0; column = 0; right = false; formed = true; bounded = true }

unfoldable pub data_line_of : ℕ → List ℕ → DataLine
data_line_of form content = provided eqb form sparse then sparse_line (words content) else numbers_line (words content)

-- "a data line above the first [Row] of a form with rows, or a sparse line not of two words, is 12"
unfoldable pub is_data_out_of_order : DataLine → Matrix → Bool
is_data_out_of_order l m = either (not l.right) (both (not (eqb m.form diagonal)) (eqb m.rows.row 0))

-- this many more numbers exceed the bound
unfoldable pub are_too_many : ℕ → ℕ → Bool
are_too_many values numbers = ltb most_values (values + numbers)

abbrev pub data_rules : DataLine → Matrix → ℕ → List Rule
data_rules l m values =
    refusal.line when is_data_out_of_order l m
    ∷ refusal.number when not l.formed
    ∷ refusal.range when not l.bounded
    ∷ refusal.limit when are_too_many values l.numbers
    ∷ []

-- "columns rising and not below the row"
unfoldable pub with_column : ℕ → Matrix → Matrix
with_column c m =
    record {
      form = m.form;
      band = m.band;
      first = m.first;
      rows =
          record {
            row = m.rows.row;
            above = m.rows.above;
            from = m.rows.from;
            least = c + 1;
            greatest = max m.rows.greatest c;
            fits = both m.rows.fits (leb m.rows.least c);
          };
    }

unfoldable pub data_next : DataLine → Matrix → Matrix
data_next l m = provided eqb m.form sparse then with_column l.column m else m

-- ---- the shape, at the keyword that closes the matrix

-- "N is the conductor count"; in a Sparse_matrix it "is the greatest row or column named"
unfoldable pub shape_conductors : Matrix → ℕ → ℕ
shape_conductors m values =
    provided eqb m.form diagonal then values - m.first else
    provided eqb m.form sparse then m.rows.greatest else m.rows.row

-- all rows have the right length, the last one a single number; in a Sparse_matrix the columns rise
unfoldable pub is_shaped : Matrix → ℕ → Bool
is_shaped m values =
    provided eqb m.form diagonal then true else
    provided eqb m.form sparse then m.rows.fits else
    both m.rows.fits (both (stands_above m values) (eqb (in_row m values) 1))

-- "Breaks of shape (a matrix with no number too)"; "N is .. the same for a section's matrices": `known` is the N of the
-- earlier matrices of the section, 0 if there is none
unfoldable pub is_wrong_shape : Matrix → ℕ → ℕ → Bool
is_wrong_shape m known values =
    either (leb values m.first)
    (either (not (is_shaped m values)) (both (not (eqb known 0)) (not (eqb known (shape_conductors m values)))))

-- "a diagonal over 256 (17)"
unfoldable pub is_too_wide : Matrix → ℕ → Bool
is_too_wide m values = both (eqb m.form diagonal) (ltb most_conductors (shape_conductors m values))
