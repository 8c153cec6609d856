-- `lex_line::fast::last_end` meets its contract.
-- Assumes nothing.
use Rattle.base.proofs.IfLaws.{chain}
use Rattle.lex_line.proofs.fast.last_end.Goals as goal

pub returns-then-ends-eq0 : goal.returns-then-ends-eq0
returns-then-ends-eq0 c = search chain

pub returns : goal.returns
returns c = search chain
