-- `read_sections::read_on` meets its contract. By the place; blank lines are skipped.
-- Assumes nothing.
use Rattle.read_sections.proofs.WalkLaws.{blank_continues, alone_continues}
use Rattle.read_sections.proofs.read_on.Goals as goal

pub returns-then-at-passing : goal.returns-then-at-passing
returns-then-at-passing c = search blank_continues

pub read_alone-requires : goal.read_alone-requires
read_alone-requires c = let pre = c.requires in
    (pre.0, pre.1, pre.2, λ e. absurd (c.if-s-eq-MATRIX.false e), pre.3)

pub returns : goal.returns
returns c = search alone_continues
