use Prim.Native.Nat.{◌<◌}
use native.Mathlib.Omega.{arith}
use lib.ListN.{length}
use borrow.Author.Rules.{rules}
use Rattle.line_matrix.proofs.MatrixLaws.{line_starts, line_blank, line_number, line_less, placed_within}
use Rattle.line_matrix.proofs.numbers_line.Goals as goal

pub loop-at-init : goal.loop-at-init
loop-at-init c = search (rules, line_starts)

pub returns-then-content-start : goal.returns-then-content-start
returns-then-content-start c = search line_blank

pub loop-at-smaller : goal.loop-at-smaller
loop-at-smaller c =
    let inside : c.loop-at.at < length c.args.content.now = omega arith in
    search line_less

pub loop-at-preserved : goal.loop-at-preserved
loop-at-preserved c = (search placed_within, search line_number)
