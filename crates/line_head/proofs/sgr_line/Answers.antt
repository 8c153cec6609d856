-- `line_head::sgr_line` meets its contract: each `return` by what the calls before it answered.
-- Assumes nothing.
use Rattle.lex_line.proofs.FormLaws.{marks}
use Rattle.line_head.proofs.LineLaws.{colon_within, colon_taken, sgr_count, sgr_wrong, sgr_right}
use borrow.Author.Rules.{rules}
use Rattle.line_head.proofs.sgr_line.Goals as goal

pub returns-then-few-ne2 : goal.returns-then-few-ne2
returns-then-few-ne2 c = search sgr_count

pub marked-word-requires : goal.marked-word-requires
marked-word-requires c = search (rules, marks)

pub slice_bounds-same_bytes-count : goal.slice_bounds-same_bytes-count
slice_bounds-same_bytes-count c = search colon_within

pub slice_bounds-same_bytes-start : goal.slice_bounds-same_bytes-start
slice_bounds-same_bytes-start c = search colon_within

pub returns-then-not-same_bytes : goal.returns-then-not-same_bytes
returns-then-not-same_bytes c = search sgr_wrong

pub slice_bounds-read_integer-end : goal.slice_bounds-read_integer-end
slice_bounds-read_integer-end c = search colon_taken

pub returns : goal.returns
returns c = search sgr_right
