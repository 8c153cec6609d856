-- `lex_number::raising` meets its contract: each result by the tests that led there.
-- Assumes nothing.
use Rattle.base.proofs.IfLaws.{ifs}
use Rattle.lex_number.specs.Way.Capped.{raising}
use Rattle.lex_number.proofs.raising.Goals as goal

pub returns-then-x : goal.returns-then-x
unfolding raising
returns-then-x c = search ifs

pub returns-else-x : goal.returns-else-x
unfolding raising
returns-else-x c = search ifs
