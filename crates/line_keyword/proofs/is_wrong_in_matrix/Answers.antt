-- `line_keyword::is_wrong_in_matrix` meets its contract: by the keyword.
-- Assumes nothing.
use Rattle.std.proofs.Common.{◌≡◌}
use borrow.Author.Rules.{rules}
use Rattle.base.proofs.IfLaws.{chain}
use Rattle.line_keyword.specs.Keywords.{is_wrong_in_matrix}
use Rattle.line_keyword.proofs.BlockLaws.{wrong_given, row_judged}
use Rattle.line_keyword.proofs.is_wrong_in_matrix.Goals as goal

pub returns-then-key-eq-ROW : goal.returns-then-key-eq-ROW
returns-then-key-eq-ROW c =
    let e : c.is_some_and.result ≡ wrong_given c.args.given c.args.m = search rules in
    row_judged _ _ _ _ c.if-key-eq-ROW.true e

pub returns-else-key-eq-ROW : goal.returns-else-key-eq-ROW
unfolding is_wrong_in_matrix
returns-else-key-eq-ROW c = search chain
