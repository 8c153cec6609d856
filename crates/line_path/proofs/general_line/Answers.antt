-- `line_path::general_line` meets its contract: the word marked is the line's first.
-- Assumes nothing.
use Rattle.lex_line.proofs.FormLaws.{marks}
use Rattle.line_path.proofs.LineLaws.{line_told}
use borrow.Author.Rules.{rules}
use Rattle.line_path.proofs.general_line.Goals as goal

pub marked-requires : goal.marked-requires
marked-requires c = search (rules, marks)

pub returns : goal.returns
returns c = search line_told
