-- `read_sections::section_with` meets its contract.
-- Assumes nothing.
use Rattle.read_sections.proofs.OpenLaws.{section_told}
use Rattle.read_sections.proofs.section_with.Goals as goal

pub returns : goal.returns
returns c = search section_told
