-- `intake::store::read` meets its contract: a line of the family breaks a rule, or the lines behind it are read.
-- Assumes nothing.
use Rattle.intake.proofs.ReadLaws.{family_broken, family_none, all_staged}
use Rattle.read_line.proofs.ResultLaws.{refused_not_read}
use Rattle.intake.proofs.store.read.Goals as goal

pub returns-then-walk-ne0 : goal.returns-then-walk-ne0
returns-then-walk-ne0 c = (
  family_broken _ _ _ _ _ _ _ c.read_family-family.ensures c.if-walk-ne0.true,
  λ k e. absurd (refused_not_read _ _ k e),
)

pub read_rest-requires : goal.read_rest-requires
read_rest-requires c = (
  c.if-walk-ne0.false,
  c.read_family-family.ensures.same,
  c.read_family-family.ensures.onward c.if-walk-ne0.false,
  c.read_family-family.ensures.place c.if-walk-ne0.false,
  c.read_family-family.ensures.early c.if-walk-ne0.false,
  family_none _ _ _ _ _ _ _ c.read_family-family.ensures c.if-walk-ne0.false,
)

pub returns : goal.returns
returns c = (
  c.read_rest.ensures.0,
  λ k e. all_staged _ _ _ _ _ _ _ c.read_family-family.ensures c.if-walk-ne0.false _ _ _ (c.read_rest.ensures.1 k e),
)
