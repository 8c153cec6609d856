-- `line_keyword::is_unclosed` meets its contract: each `return` by the tests that led there.
-- Assumes nothing.
use Rattle.base.proofs.IfLaws.{chain}
use Rattle.line_keyword.specs.Keywords.{is_unclosed}
use Rattle.line_keyword.proofs.is_unclosed.Goals as goal

pub returns-then-s-eq-HEAD : goal.returns-then-s-eq-HEAD
unfolding is_unclosed
returns-then-s-eq-HEAD c = search chain depth 14 fits 4000

pub returns-then-s-eq-PATH : goal.returns-then-s-eq-PATH
unfolding is_unclosed
returns-then-s-eq-PATH c = search chain depth 14 fits 4000

pub returns-then-s-eq-MAP_HEAD : goal.returns-then-s-eq-MAP_HEAD
unfolding is_unclosed
returns-then-s-eq-MAP_HEAD c = search chain depth 14 fits 4000

pub returns-then-s-eq-PIN_LIST : goal.returns-then-s-eq-PIN_LIST
unfolding is_unclosed
returns-then-s-eq-PIN_LIST c = search chain depth 14 fits 4000

pub returns : goal.returns
unfolding is_unclosed
returns c = search chain depth 14 fits 4000
