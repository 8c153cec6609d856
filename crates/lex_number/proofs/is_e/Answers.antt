-- `lex_number::is_e` meets its contract: each result by the tests that led there.
-- Assumes nothing.
use Rattle.base.proofs.IfLaws.{ifs, either_rest}
use Rattle.lex_number.specs.Number.{is_e}
use Rattle.lex_number.proofs.is_e.Goals as goal

pub returns-then-b-eq101 : goal.returns-then-b-eq101
unfolding is_e
returns-then-b-eq101 c = search ifs

pub returns-else-b-eq101 : goal.returns-else-b-eq101
unfolding is_e
returns-else-b-eq101 c = search (ifs, either_rest)
