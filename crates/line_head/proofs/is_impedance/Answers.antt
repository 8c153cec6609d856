-- `line_head::is_impedance` meets its contract: the word marked is the first before the sign.
-- Assumes nothing.
use Rattle.lex_line.proofs.FormLaws.{marks, sign_taken}
use Rattle.line_head.proofs.LineLaws.{impedance_named}
use borrow.Author.Rules.{rules}
use Rattle.line_head.proofs.is_impedance.Goals as goal

pub slice_bounds-left-end : goal.slice_bounds-left-end
slice_bounds-left-end c = search sign_taken

pub marked-requires : goal.marked-requires
marked-requires c = search (rules, marks)

pub returns : goal.returns
returns c = search impedance_named
