-- `lex_keyword::closes_at` meets its contract: each `return` by the tests that led there.
-- Assumes nothing.
use Rattle.base.proofs.IfLaws.{ifs, both_rest, either_rest}
use Rattle.lex_keyword.specs.Way.Reading.{closes_at}
use Rattle.lex_keyword.proofs.closes_at.Goals as goal

pub returns-then-content-end : goal.returns-then-content-end
unfolding closes_at
returns-then-content-end c = search ifs

pub returns-then-content-next : goal.returns-then-content-next
unfolding closes_at
returns-then-content-next c = search ifs

pub returns : goal.returns
unfolding closes_at
returns c = search (ifs, both_rest, either_rest)
