-- `read_sections::close_matrix` meets its contract. Its record is staged, and the section knows it.
-- Assumes nothing.
use Rattle.read_sections.proofs.OpenLaws.{matrix_stored, matrix_known}
use Rattle.read_sections.proofs.close_matrix.Goals as goal

pub returns : goal.returns
returns c = (search matrix_stored, search matrix_known)
