-- `line_path::amount_line` meets its contract: each `return` by what the calls before it answered.
-- Assumes nothing.
use Rattle.line_path.proofs.SectionLaws.{amount_mult, amount_length}
use Rattle.line_path.proofs.amount_line.Goals as goal

pub returns-then-mult : goal.returns-then-mult
returns-then-mult c = search amount_mult

pub returns : goal.returns
returns c = search amount_length
