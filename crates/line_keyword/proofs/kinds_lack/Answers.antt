-- `line_keyword::kinds_lack` meets its contract: each `return` by the tests that led there.
-- Assumes nothing.
use Rattle.base.proofs.IfLaws.{chain}
use Rattle.line_keyword.specs.Keywords.{kinds_lack}
use Rattle.line_keyword.proofs.kinds_lack.Goals as goal

pub returns-then-has_no_kind : goal.returns-then-has_no_kind
unfolding kinds_lack
returns-then-has_no_kind c = search chain depth 14 fits 4000

pub returns-then-section-ne-DISTRIBUTED : goal.returns-then-section-ne-DISTRIBUTED
unfolding kinds_lack
returns-then-section-ne-DISTRIBUTED c = search chain depth 14 fits 4000

pub returns-then-not-is_seen : goal.returns-then-not-is_seen
unfolding kinds_lack
returns-then-not-is_seen c = search chain depth 14 fits 4000

pub returns : goal.returns
unfolding kinds_lack
returns c = search chain depth 14 fits 4000
