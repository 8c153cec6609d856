-- `read_sections::close_section` meets its contract. Staged where the line leads out of the section.
-- Assumes nothing.
use Rattle.read_sections.proofs.OpenLaws.{sections_apart, sections_kept, sections_closed}
use Rattle.read_sections.proofs.close_section.Goals as goal

pub returns-then-after-ne-AFTER : goal.returns-then-after-ne-AFTER
returns-then-after-ne-AFTER c = search sections_apart

pub returns-then-before-eq-AFTER : goal.returns-then-before-eq-AFTER
returns-then-before-eq-AFTER c = search sections_kept

pub returns : goal.returns
returns c = search sections_closed
