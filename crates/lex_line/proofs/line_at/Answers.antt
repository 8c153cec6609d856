-- `lex_line::line_at` meets its contract: the LF stands where the content ends, or is looked for from there.
-- Assumes nothing.
use Prim.Native.Nat.{◌<◌}
use native.Mathlib.Omega.{arith}
use lib.ListN.{length}
use Rattle.lex_line.proofs.LineLaws.{feed_inside, line_here_lem}
use Rattle.lex_line.proofs.line_at.Goals as goal

pub overflow_add-result : goal.overflow_add-result
overflow_add-result c = let h : c.past_content-content.result < length c.args.text.now = search feed_inside in
    omega arith

pub returns-then-byte_at-eq-LINE_FEED : goal.returns-then-byte_at-eq-LINE_FEED
returns-then-byte_at-eq-LINE_FEED c = search line_here_lem
