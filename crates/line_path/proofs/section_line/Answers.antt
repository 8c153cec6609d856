-- `line_path::section_line` meets its contract: the parts before and after the sign say what the line says.
-- Assumes nothing.
use Rattle.lex_line.proofs.FormLaws.{sign_taken}
use Rattle.line_path.proofs.SectionLaws.{section_none, section_parts_lem}
use Rattle.line_path.proofs.section_line.Goals as goal

pub returns-then-content-sign : goal.returns-then-content-sign
returns-then-content-sign c = search section_none

pub slice_bounds-parts_line-end : goal.slice_bounds-parts_line-end
slice_bounds-parts_line-end c = search sign_taken

pub returns : goal.returns
returns c = search section_parts_lem
