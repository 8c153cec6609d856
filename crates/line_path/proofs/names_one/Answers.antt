-- `line_path::names_one` meets its contract: each way by what the calls before it answered.
-- Assumes nothing.
use mathlib.Core.Path.{◌∙◌}
use borrow.Author.Tests.{ne_eqb}
use Rattle.lex_line.proofs.FormLaws.{marks}
use Rattle.line_path.proofs.LineLaws.{names_none, names_word}
use borrow.Author.Rules.{rules}
use Rattle.line_path.proofs.names_one.Goals as goal

pub returns-then-few-eq2 : goal.returns-then-few-eq2
returns-then-few-eq2 c = search names_word

pub marked-requires : goal.marked-requires
marked-requires c = search (rules, marks)

pub returns-else-few-eq2 : goal.returns-else-few-eq2
returns-else-few-eq2 c = ne_eqb _ _ c.if-few-eq2.false ∙ search names_none
