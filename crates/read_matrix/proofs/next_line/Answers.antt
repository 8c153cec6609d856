-- `read_matrix::next_line` meets its contract.
-- Assumes nothing.
use mathlib.Core.Path.{ap}
use Rattle.lex_line.specs.declared.Line.{Line}
use Rattle.lex_line.proofs.LineLaws.{next_here}
use Rattle.read_matrix.proofs.FrontLaws.{next_fits}
use Rattle.read_matrix.proofs.next_line.Goals as goal

pub overflow_add-result : goal.overflow_add-result
overflow_add-result c = search next_fits

pub returns-then-byte_at-eq-LINE_FEED : goal.returns-then-byte_at-eq-LINE_FEED
returns-then-byte_at-eq-LINE_FEED c = search next_here

pub returns : goal.returns
returns c = ap (λ (l : Line). l.next) c.line_at-line.ensures
