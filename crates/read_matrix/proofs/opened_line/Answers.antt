-- `read_matrix::opened_line` meets its contract: by what the bracket says.
-- Assumes nothing.
use mathlib.Core.Path.{refl}
use Rattle.read_matrix.proofs.LineLaws.{unnamed_takes, bracket_told}
use borrow.Author.Rules.{rules}
use Rattle.read_matrix.proofs.opened_line.Goals as goal

pub named_line-requires : goal.named_line-requires
named_line-requires c = (search rules, search bracket_told, search rules)

pub returns-in-Plain : goal.returns-in-Plain
returns-in-Plain c = search (unnamed_takes, refl)

pub returns-in-Indented : goal.returns-in-Indented
returns-in-Indented c = search (unnamed_takes, refl)

pub returns-in-Bad : goal.returns-in-Bad
returns-in-Bad c = search (unnamed_takes, refl)

pub returns-in-Unknown : goal.returns-in-Unknown
returns-in-Unknown c = search (unnamed_takes, refl)

pub returns-in-Later : goal.returns-in-Later
returns-in-Later c = search (unnamed_takes, refl)
