-- `lex_number::is_within` meets its contract: each result by the tests that led there.
-- Assumes nothing.
use Rattle.base.specs.Bytes.{within}
use Rattle.base.proofs.IfLaws.{ifs, both_rest, both_not_left}
use Rattle.lex_number.proofs.is_within.Goals as goal

pub returns-then-low-value : goal.returns-then-low-value
unfolding within
returns-then-low-value c = search (ifs, both_rest)

pub returns-else-low-value : goal.returns-else-low-value
unfolding within
returns-else-low-value c = search (ifs, both_not_left)
