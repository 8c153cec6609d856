-- `lex_number::lowering` meets its contract: each result by the tests that led there.
-- Assumes nothing.
use Rattle.base.proofs.IfLaws.{ifs}
use Rattle.lex_number.specs.Way.Capped.{lowering}
use Rattle.lex_number.proofs.lowering.Goals as goal

pub returns-then-x : goal.returns-then-x
unfolding lowering
returns-then-x c = search ifs

pub returns-else-x : goal.returns-else-x
unfolding lowering
returns-else-x c = search ifs
