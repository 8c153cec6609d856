-- `line_head::type_line` meets its contract: each `return` by what the calls before it answered.
-- Assumes nothing.
use Rattle.lex_line.proofs.FormLaws.{marks}
use Rattle.line_head.proofs.LineLaws.{type_count, type_wrong, type_right}
use borrow.Author.Rules.{rules}
use Rattle.line_head.proofs.type_line.Goals as goal

pub returns-then-few-ne2 : goal.returns-then-few-ne2
returns-then-few-ne2 c = search type_count

pub marked-requires : goal.marked-requires
marked-requires c = search (rules, marks)

pub returns-then-kind-eq0 : goal.returns-then-kind-eq0
returns-then-kind-eq0 c = search type_wrong

pub returns : goal.returns
returns c = search type_right
