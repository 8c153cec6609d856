-- `read_sections::open_after` meets its contract. By the place to which the line leads.
-- Assumes nothing.
use Rattle.read_sections.proofs.OpenLaws.{after_matrix, after_other, after_same, after_begun}
use Rattle.read_sections.proofs.open_after.Goals as goal

pub returns-then-after-eq-MATRIX : goal.returns-then-after-eq-MATRIX
returns-then-after-eq-MATRIX c = search after_matrix

pub returns-then-after-ne-SECTION_HEAD : goal.returns-then-after-ne-SECTION_HEAD
returns-then-after-ne-SECTION_HEAD c = search after_other

pub returns-then-before-eq-SECTION_HEAD : goal.returns-then-before-eq-SECTION_HEAD
returns-then-before-eq-SECTION_HEAD c = search after_same

pub returns : goal.returns
returns c = search after_begun
