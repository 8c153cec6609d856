-- `line_map::map_line` meets its contract: each `return` by the names that the first word, or the word before the sign, was compared with.
-- Assumes nothing.
use Rattle.line_map.proofs.LineLaws.{says_order_lem, says_list, says_columns_lem, says_rows_lem, says_nothing_lem}
use Rattle.lex_line.proofs.FormLaws.{sign_taken}
use Rattle.line_map.proofs.map_line.Goals as goal

pub returns-then-same_bytes : goal.returns-then-same_bytes
returns-then-same_bytes c = search says_order_lem

pub returns-then-same_bytes-2 : goal.returns-then-same_bytes-2
returns-then-same_bytes-2 c = search says_list

pub slice_bounds-first_word-end : goal.slice_bounds-first_word-end
slice_bounds-first_word-end c = search sign_taken

pub returns-then-same_bytes-3 : goal.returns-then-same_bytes-3
returns-then-same_bytes-3 c = search says_columns_lem

pub returns-then-same_bytes-4 : goal.returns-then-same_bytes-4
returns-then-same_bytes-4 c = search says_rows_lem

pub returns : goal.returns
returns c = search says_nothing_lem
