-- `cross_steps::differs` meets its contract.
-- Assumes nothing.
use Rattle.cross_steps.proofs.RuleLaws.{differs_none, differs_some}
use Rattle.cross_steps.proofs.differs.Goals as goal

pub returns-then-counts-first : goal.returns-then-counts-first
returns-then-counts-first c = search differs_none

pub returns : goal.returns
returns c = search differs_some
