-- `cross_steps::is_met` meets its contract.
-- Assumes nothing.
use borrow.Author.Rules.{rules}
use Rattle.cross_steps.proofs.MarkLaws.{end_marked, none_told}
use Rattle.cross_steps.proofs.MarkLaws.{mark_inside}
use Rattle.cross_steps.proofs.is_met.Goals as goal

pub bounds-marks-mark : goal.bounds-marks-mark
bounds-marks-mark c = search mark_inside

pub returns-then-not-marked : goal.returns-then-not-marked
returns-then-not-marked c = (search none_told, search end_marked)

pub returns : goal.returns
returns c = (search rules, search end_marked)
