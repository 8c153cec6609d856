-- The readings of document 01, "Lines and keywords" (K2, K4 to K10, K16), as far as the bracket of one line decides
-- them: each content with its answer, and one proof for the whole list, which the checker computes. Comments are cut
-- off before, so no content has a `|`.
-- Assumes nothing.
use mathlib.Core.Path.{◌≡◌, refl}
use mathlib.Core.List.{List, [], ◌∷◌, ◌++◌, map}
use Prim.Native.Nat.{ℕ}
use Rattle.base.specs.If.{both, either, provided◌then◌else◌}
use Rattle.base.specs.Bytes.{bytes, tab, small, is_capital, is_small, is_letter, is_digit, is_blank, within}
use Rattle.base.specs.Runs.{run, all, same}
use Rattle.lex_keyword.specs.Names.{folded, same_name, name_index, keyword_of, is_later, the_end, row, icm_ver, begin_header, end_header, manufacturer}
use Rattle.lex_keyword.specs.Bracket.{is_open, is_not_closing, is_separator, is_plain_byte, push, parted, is_hyphen_word, is_good_word, are_good_words, is_good_name, name_length, name_of, is_closed, is_good_bracket, argument_at, named_as, bracket_of}
use Rattle.lex_keyword.specs.declared.Bracket.{Bracket}
use Rattle.lex_keyword.specs.declared.Bracket.TheVariants.{Plain, Indented, Bad, Unknown, Later, Keyword}

pub record Reading : Type 0 where
  pub content : List ℕ
  pub says : Bracket

infix 70 ◌says◌
abbrev ◌says◌ : List ℕ → Bracket → Reading
content says answer = record { content = content; says = answer }

abbrev pub readings : List Reading
readings =
    -- no bracket first
    bytes "" says Plain ∷
    bytes "  " says Plain ∷
    bytes "x [End]" says Plain ∷
    -- K2: case and underscore are free, whatever follows
    bytes "[Begin Header]" says Keyword begin_header 14 ∷
    bytes "[Begin Header] x" says Keyword begin_header 15 ∷
    bytes "[begin_HEADER]" says Keyword begin_header 14 ∷
    bytes "[Begin Header]x" says Bad ∷
    bytes " [Begin Header]" says Indented ∷
    bytes "[x" says Bad ∷
    -- K4: a bracket outside column 1
    bytes " [x]" says Indented ∷
    (tab ∷ bytes "[x") says Indented ∷
    -- K5: a bracket in column 1 always begins a keyword
    bytes "[1] paper" says Bad ∷
    bytes "[Paper]" says Unknown ∷
    -- K6: to the first `]`, then a blank or the end; the separators inside
    bytes "[End Header]" says Keyword end_header 12 ∷
    bytes "[End Header]]" says Bad ∷
    (bytes "[End" ++ (tab ∷ bytes "Header]")) says Bad ∷
    bytes "[End Header ]" says Bad ∷
    bytes "[End Header_]" says Bad ∷
    bytes "[ End Header]" says Bad ∷
    bytes "[_End Header]" says Bad ∷
    bytes "[End  Header]" says Bad ∷
    bytes "[End _Header]" says Bad ∷
    bytes "[]" says Bad ∷
    bytes "[" says Bad ∷
    -- K7: the first byte is a letter; later words may begin with a digit
    bytes "[a 1b]" says Unknown ∷
    bytes "[1b]" says Bad ∷
    -- K8: a hyphen only in S-parameter, and it does not equal an underscore
    bytes "[A-B]" says Bad ∷
    bytes "[S-parameter]" says Unknown ∷
    bytes "[ICM S-parameters]" says Bad ∷
    bytes "[ICM S_parameter]" says Unknown ∷
    bytes "[icm_s-PARAMETER]" says Later ∷
    -- K9: names that 000 uses only in passing
    bytes "[Begin ICM Model Description]" says Unknown ∷
    bytes "[ICM Section]" says Unknown ∷
    bytes "[Begin ICM Model Family]" says Unknown ∷
    -- K10: later keywords
    bytes "[Comment Char] " says Later ∷
    bytes "[Nodal Path Description]" says Later ∷
    bytes "[ICM Node Map] x" says Later ∷
    bytes "[ICM Swath Parameters]" says Later ∷
    bytes "[ICM Swath Pin Numbers]" says Later ∷
    bytes "[Frequency] 1" says Later ∷
    bytes "[ICM S-parameter] x" says Later ∷
    -- K16: where the argument starts; without an argument, the end of the content
    bytes "[End]" says Keyword the_end 5 ∷
    bytes "[End]  " says Keyword the_end 7 ∷
    bytes "[Row] 1" says Keyword row 6 ∷
    (bytes "[ICM Ver]" ++ (tab ∷ bytes " 1.1")) says Keyword icm_ver 11 ∷
    bytes "[Manufacturer] O" says Keyword manufacturer 15 ∷
    []

pub each_reading : map (λ (r : Reading). bracket_of r.content) readings ≡ map (λ (r : Reading). r.says) readings
unfolding
    provided◌then◌else◌ both either small is_capital is_small is_letter is_digit is_blank within run all same folded same_name name_index keyword_of is_later is_open is_not_closing is_separator is_plain_byte push parted is_hyphen_word is_good_word are_good_words is_good_name name_length name_of is_closed is_good_bracket argument_at named_as bracket_of
each_reading = refl
