-- `line_place::leads_after_family` meets its contract: each `return` by the keywords it was compared with.
-- Assumes nothing.
use Rattle.base.proofs.IfLaws.{chain}
use Rattle.line_place.specs.Place.{leads_after_family}
use Rattle.line_place.proofs.leads_after_family.Goals as goal

pub returns-then-key-eq-BEGIN_ICM_SECTION : goal.returns-then-key-eq-BEGIN_ICM_SECTION
unfolding leads_after_family
returns-then-key-eq-BEGIN_ICM_SECTION c = search chain depth 12

pub returns-then-key-eq-THE_END : goal.returns-then-key-eq-THE_END
unfolding leads_after_family
returns-then-key-eq-THE_END c = search chain depth 12

pub returns : goal.returns
unfolding leads_after_family
returns c = search chain depth 12
