-- `read_sections::begin_section` meets its contract. The argument of the keyword, where it stands in the text.
-- Assumes nothing.
use Rattle.read_sections.proofs.OpenLaws.{beginning_fits, beginning_told}
use Rattle.read_sections.proofs.begin_section.Goals as goal

pub overflow_add-result : goal.overflow_add-result
overflow_add-result c = search beginning_fits

pub returns : goal.returns
returns c = search beginning_told
