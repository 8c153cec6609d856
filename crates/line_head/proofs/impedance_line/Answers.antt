-- `line_head::impedance_line` meets its contract: each `return` by what the calls before it answered.
-- Assumes nothing.
use Rattle.lex_line.proofs.FormLaws.{marks, sign_taken}
use Rattle.line_head.proofs.LineLaws.{impedance_none, impedance_surplus_before, impedance_surplus_after, impedance_told}
use borrow.Author.Rules.{rules}
use Rattle.line_head.proofs.impedance_line.Goals as goal

pub returns-then-content-sign : goal.returns-then-content-sign
returns-then-content-sign c = search impedance_none

pub slice_bounds-first_two_words-end : goal.slice_bounds-first_two_words-end
slice_bounds-first_two_words-end c = search sign_taken

pub returns-then-left-ne1 : goal.returns-then-left-ne1
returns-then-left-ne1 c = search impedance_surplus_before

pub returns-then-right-ne1 : goal.returns-then-right-ne1
returns-then-right-ne1 c = search impedance_surplus_after

pub marked-requires : goal.marked-requires
marked-requires c = search (rules, marks)

pub returns : goal.returns
returns c = search impedance_told
