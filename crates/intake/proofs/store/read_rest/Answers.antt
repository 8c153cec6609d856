-- `intake::store::read_rest` meets its contract: the text ends within the family, or the sections are read.
-- Assumes nothing.
use Rattle.intake.proofs.ReadLaws.{rest_read, rest_ends, rest_broken}
use Rattle.intake.proofs.store.read_rest.Goals as goal

pub returns-then-state-ne-AFTER : goal.returns-then-state-ne-AFTER
returns-then-state-ne-AFTER c = (
  rest_ends _ _ c.requires.0 c.requires.1 c.if-state-ne-AFTER.true _ c.at_end.ensures c.requires.3,
  λ k e. absurd (rest_broken _ _ c.requires.0 c.requires.1 c.if-state-ne-AFTER.true _ c.at_end.ensures c.requires.4 k e),
)

pub read_sections-requires : goal.read_sections-requires
read_sections-requires c = (c.requires.2, c.requires.3, c.requires.5 c.if-state-ne-AFTER.false)

pub returns : goal.returns
returns c = (
  rest_read _ _ c.requires.0 c.requires.1 _ c.read_sections.ensures.fact_1.0,
  λ k e. (c.if-state-ne-AFTER.false, c.read_sections.ensures.fact_1.1 k e),
)
