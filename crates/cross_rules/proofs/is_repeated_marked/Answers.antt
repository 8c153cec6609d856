-- `cross_rules::is_repeated_marked` meets its contract: a name whose mark is not set is none of those above.
-- Assumes nothing.
use Rattle.table_name.proofs.MarkLaws.{of_inside}
use Rattle.cross_rules.proofs.MarkedLaws.{marked_on, none_told}
use borrow.Author.Rules.{rules}
use Rattle.cross_rules.proofs.is_repeated_marked.Goals as goal

pub bounds-marks-mark : goal.bounds-marks-mark
bounds-marks-mark c = search of_inside

pub bounds-marks-mark-2 : goal.bounds-marks-mark-2
bounds-marks-mark-2 c = search of_inside

pub returns-then-not-met : goal.returns-then-not-met
returns-then-not-met c = (search none_told, search marked_on)

pub returns : goal.returns
returns c = (search rules, search marked_on)
