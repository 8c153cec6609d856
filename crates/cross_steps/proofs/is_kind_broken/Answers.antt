-- `cross_steps::is_kind_broken` meets its contract.
-- Assumes nothing.
use Rattle.cross_steps.proofs.RuleLaws.{kind_other, kind_single}
use Rattle.cross_steps.proofs.is_kind_broken.Goals as goal

pub returns-then-kind-ge-MLM : goal.returns-then-kind-ge-MLM
returns-then-kind-ge-MLM c = search kind_other

pub returns : goal.returns
returns c = search kind_single
