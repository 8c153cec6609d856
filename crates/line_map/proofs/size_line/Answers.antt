-- `line_map::size_line` meets its contract: each `return` by where the sign stands and how many words are on either side.
-- Assumes nothing.
use Rattle.lex_line.proofs.WordLaws.{first_ordered, first_within}
use Rattle.line_map.proofs.LineLaws.{size_unsigned, size_other, size_surplus, size_given}
use Rattle.lex_line.proofs.FormLaws.{sign_taken}
use Rattle.line_map.proofs.size_line.Goals as goal

pub returns-then-content-sign : goal.returns-then-content-sign
returns-then-content-sign c = search size_unsigned

pub slice_bounds-first_two_words-end : goal.slice_bounds-first_two_words-end
slice_bounds-first_two_words-end c = search sign_taken

pub returns-then-left-ne1 : goal.returns-then-left-ne1
returns-then-left-ne1 c = search size_other

pub returns-then-right-ne1 : goal.returns-then-right-ne1
returns-then-right-ne1 c = search size_surplus

pub marked-requires : goal.marked-requires
marked-requires c = search (first_ordered, first_within)

pub returns : goal.returns
returns c = search size_given
