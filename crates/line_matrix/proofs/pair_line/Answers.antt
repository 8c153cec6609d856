-- `line_matrix::pair_line` meets its contract: by what the calls answered.
-- Assumes nothing.
use Rattle.base.proofs.IfLaws.{both_and}
use Rattle.line_matrix.proofs.pair_line.Goals as goal

pub returns : goal.returns
returns c = rw (both_and, both_and) cc
