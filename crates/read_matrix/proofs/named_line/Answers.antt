-- `read_matrix::named_line` meets its contract: by whether the keyword keeps the matrix.
-- Assumes nothing.
use mathlib.Core.Path.{sym, ◌∙◌}
use Rattle.read_matrix.proofs.LineLaws.{keeps_takes, leaves_takes}
use Rattle.read_matrix.proofs.named_line.Goals as goal

pub matrix_keyword_line-requires : goal.matrix_keyword_line-requires
matrix_keyword_line-requires c = search (sym, ◌∙◌)

pub returns-then-is_row_or_bandwidth : goal.returns-then-is_row_or_bandwidth
returns-then-is_row_or_bandwidth c = keeps_takes _ c.requires.0 _ _ c.requires.1 _ _ _ (sym c.is_row_or_bandwidth.ensures ∙ c.if-is_row_or_bandwidth.true) _
    c.argument_of.ensures _ c.matrix_keyword_line.ensures

pub returns : goal.returns
returns c = search leaves_takes
