-- `lex_number::is_sign` meets its contract: each result by the tests that led there.
-- Assumes nothing.
use Rattle.base.proofs.IfLaws.{ifs, either_rest}
use Rattle.lex_number.specs.Number.{is_sign}
use Rattle.lex_number.proofs.is_sign.Goals as goal

pub returns-then-b-eq43 : goal.returns-then-b-eq43
unfolding is_sign
returns-then-b-eq43 c = search ifs

pub returns-else-b-eq43 : goal.returns-else-b-eq43
unfolding is_sign
returns-else-b-eq43 c = search (ifs, either_rest)
