-- Document 01, "Lines and keywords" and the sections after it: which argument each keyword takes. An argument is given
-- without the blanks at its ends and without the comment.
-- Assumes nothing.
use Rattle.std.specs.Prelude.{ℕ, ◌+◌, Bool, false, not, List, length, drop, get_or, ltb, eqb, is_some, unwrap_or}
use Prim.Native.Char.{code}
use Rattle.base.specs.If.{provided◌then◌else◌, both, either}
use Rattle.base.specs.Bytes.{bytes, within, is_digit, is_small, is_filled}
use Rattle.base.specs.Runs.{run, all, same}
use Rattle.lex_number.specs.Integer.{whole_of, is_whole_within}
use Rattle.lex_keyword.specs.Names.{
  the_end,
  row,
  date,
  icm_ver,
  file_rev,
  file_name,
  bandwidth,
  end_header,
  icm_pin_map,
  begin_header,
  manufacturer,
  end_icm_model,
  icm_model_list,
  end_icm_family,
  redistribution,
  begin_icm_model,
  end_icm_section,
  begin_icm_family,
  derivation_method,
  begin_icm_section,
  tree_path_description,
}
use Rattle.line_place.specs.Place.{opens_matrix, is_row_or_bandwidth}
use Rattle.table_layout.specs.Bounds.{most_conductors, most_bandwidth}
use Rattle.table_layout.specs.Codes.{diagonal, banded, sparse, full, matrix_forms, lumped, distributed, section_methods}

-- "names .. never POWER, GND, NC or NA"
unfoldable pub is_reserved : List ℕ → Bool
is_reserved w =
    either (same w (bytes "POWER")) (either (same w (bytes "GND")) (either (same w (bytes "NC")) (same w (bytes "NA"))))

-- one word: not empty, and without a blank
unfoldable pub is_one_word : List ℕ → Bool
is_one_word s = both (ltb 0 (length s)) (all is_filled s)

-- "names of models, maps, sections .. are one word"
unfoldable pub is_name : List ℕ → Bool
is_name s = both (is_one_word s) (not (is_reserved s))

-- "from a-z 0-9 _ -"
unfoldable pub is_file_byte : ℕ → Bool
is_file_byte b = either (is_small b) (either (is_digit b) (either (eqb b (code "_")) (eqb b (code "-"))))

-- "1 to 3 more"
unfoldable pub is_extension : List ℕ → Bool
is_extension s = both (within 1 3 (length s)) (all is_file_byte s)

-- "A file name is a base, one period, 1 to 3 more"
unfoldable pub is_file_name : List ℕ → Bool
is_file_name s =
    both (ltb 0 (run is_file_byte s))
    (both (eqb (get_or s (run is_file_byte s) 0) (code ".")) (is_extension (drop (run is_file_byte s + 1) s)))

-- "Diagonal_matrix", "Banded_matrix", "Sparse_matrix", "Full_matrix", by their numbers in the table; `matrix_forms` for
-- another word
unfoldable pub form_of : List ℕ → ℕ
form_of s =
    provided same s (bytes "Diagonal_matrix") then diagonal else
    provided same s (bytes "Banded_matrix") then banded else
    provided same s (bytes "Sparse_matrix") then sparse else
    provided same s (bytes "Full_matrix") then full else matrix_forms

-- "[Derivation Method] Lumped or Distributed", by their numbers in the table; `section_methods` for another word
unfoldable pub method_of : List ℕ → ℕ
method_of s = provided same s (bytes "Lumped") then lumped else provided same s (bytes "Distributed") then distributed else section_methods

-- the keywords that take no argument
unfoldable pub takes_nothing : ℕ → Bool
takes_nothing k =
    either (eqb k begin_header)
    (either (eqb k end_header)
    (either (eqb k icm_model_list)
    (either (eqb k tree_path_description)
    (either (eqb k end_icm_model) (either (eqb k end_icm_family) (either (eqb k end_icm_section) (eqb k the_end)))))))

-- "Other arguments are non-empty text"
unfoldable pub takes_free_text : ℕ → Bool
takes_free_text k = either (eqb k file_rev) (either (eqb k redistribution) (either (eqb k begin_icm_family) (eqb k manufacturer)))

unfoldable pub takes_name : ℕ → Bool
takes_name k = either (eqb k begin_icm_model) (either (eqb k icm_pin_map) (eqb k begin_icm_section))

-- 11 for the keywords that take a text of a form of their own
unfoldable pub is_bad_form : ℕ → List ℕ → Bool
is_bad_form k s =
    provided eqb k icm_ver then not (same s (bytes "1.1")) else
    provided eqb k file_name then not (is_file_name s) else
    provided eqb k date then not (within 1 40 (length s)) else
    provided eqb k derivation_method then eqb (method_of s) section_methods else false

-- "11 ARGUMENT: argument missing, surplus or not allowed". A keyword that opens a text block takes any text, even none
unfoldable pub is_bad_argument : ℕ → List ℕ → Bool
is_bad_argument k s =
    provided is_row_or_bandwidth k then not (is_one_word s) else
    provided opens_matrix k then eqb (form_of s) matrix_forms else
    provided takes_nothing k then ltb 0 (length s) else
    provided takes_name k then not (is_name s) else
    provided takes_free_text k then eqb (length s) 0 else is_bad_form k s

-- 13 for a keyword line: [Row] and [Bandwidth] take an integer
unfoldable pub is_bad_integer : ℕ → List ℕ → Bool
is_bad_integer k s = both (is_row_or_bandwidth k) (not (is_some (whole_of s)))

-- 14 for a keyword line: "[Row] .. 1 to 256; B 0 to 255"
unfoldable pub is_out_of_bounds : ℕ → List ℕ → Bool
is_out_of_bounds k s =
    provided eqb k row then not (is_whole_within 1 most_conductors (whole_of s)) else
    provided eqb k bandwidth then ltb most_bandwidth (unwrap_or (whole_of s) 0) else false
