-- `lex_keyword::fast::is_row` meets its contract: each `return` by the tests that led there.
-- Assumes nothing.
use Rattle.base.proofs.IfLaws.{chain}
use Rattle.lex_keyword.specs.Way.Reading.{is_row}
use Rattle.lex_keyword.proofs.RowLaws.{row_short}
use Rattle.lex_keyword.proofs.fast.is_row.Goals as goal

pub returns-then-content-le4 : goal.returns-then-content-le4
returns-then-content-le4 c = search row_short

pub returns-then-content-ne82 : goal.returns-then-content-ne82
unfolding is_row
returns-then-content-ne82 c = search chain

pub returns-then-content-ne111 : goal.returns-then-content-ne111
unfolding is_row
returns-then-content-ne111 c = search chain

pub returns-then-content-ne119 : goal.returns-then-content-ne119
unfolding is_row
returns-then-content-ne119 c = search chain

pub returns-then-content-ne93 : goal.returns-then-content-ne93
unfolding is_row
returns-then-content-ne93 c = search chain

pub returns : goal.returns
unfolding is_row
returns c = search chain
