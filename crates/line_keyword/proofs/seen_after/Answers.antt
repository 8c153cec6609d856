-- `line_keyword::seen_after` meets its contract: by the keyword.
-- Assumes nothing.
use Rattle.base.proofs.IfLaws.{chain}
use Rattle.line_keyword.specs.Keywords.{seen_after}
use Rattle.line_keyword.proofs.BlockLaws.{seen_past}
use borrow.Author.Rules.{rules}
use Rattle.line_keyword.proofs.seen_after.Goals as goal

pub returns-then-is_row_or_bandwidth : goal.returns-then-is_row_or_bandwidth
unfolding seen_after
returns-then-is_row_or_bandwidth c = search chain depth 14 fits 4000

pub returns-then-key-eq-BEGIN_ICM_MODEL : goal.returns-then-key-eq-BEGIN_ICM_MODEL
unfolding seen_after
returns-then-key-eq-BEGIN_ICM_MODEL c = search chain depth 14 fits 4000

pub returns-then-key-eq-BEGIN_ICM_SECTION : goal.returns-then-key-eq-BEGIN_ICM_SECTION
unfolding seen_after
returns-then-key-eq-BEGIN_ICM_SECTION c = search chain depth 14 fits 4000

pub returns-then-key-ge40 : goal.returns-then-key-ge40
returns-then-key-ge40 c = search (seen_past, rules)

pub returns : goal.returns
unfolding seen_after
returns c = search chain depth 14 fits 4000
