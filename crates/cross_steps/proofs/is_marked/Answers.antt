-- `cross_steps::is_marked` meets its contract.
-- Assumes nothing.
use Rattle.base.proofs.IfLaws.{chain}
use Rattle.cross_steps.specs.Way.Marks.{is_marked}
use Rattle.table_name.proofs.MarkLaws.{of_inside}
use Rattle.cross_steps.proofs.MarkLaws.{bare_marked, own_marked}
use Rattle.cross_steps.proofs.MarkLaws.{mark_inside}
use Rattle.cross_steps.proofs.is_marked.Goals as goal

pub returns-then-own-eq0 : goal.returns-then-own-eq0
unfolding is_marked
returns-then-own-eq0 c = search chain

pub bounds-marks-bare : goal.bounds-marks-bare
bounds-marks-bare c = search of_inside

pub returns-then-marks-bare : goal.returns-then-marks-bare
returns-then-marks-bare c = search bare_marked

pub bounds-marks-mark : goal.bounds-marks-mark
bounds-marks-mark c = search mark_inside

pub returns : goal.returns
returns c = search own_marked
