-- `lex_number::with_point` meets its contract: digits that are cut stay so.
-- Assumes nothing.
use Rattle.lex_number.specs.Number.{with_point}
use Rattle.lex_number.proofs.DigitLaws.{point_kept}
use Rattle.lex_number.proofs.with_point.Goals as goal

pub returns : goal.returns
unfolding with_point
returns c = search point_kept
