-- `lex_line::line_check` meets its contract: each `return` by what stops the run of bytes that a line may hold.
-- Assumes nothing.
use Prim.Native.Nat.{◌≤◌}
use native.Mathlib.Omega.{arith}
use lib.ListN.{length}
use Rattle.lex_line.proofs.ByteLaws.{line_empty, line_bad_byte, last_long, last_unended, line_long, line_fine, stop_fits, terminator_at_most}
use Rattle.lex_line.proofs.line_check.Goals as goal

pub returns-then-text-at-eq-LINE_FEED : goal.returns-then-text-at-eq-LINE_FEED
returns-then-text-at-eq-LINE_FEED c = search line_empty

pub terminator_at-terminator-requires : goal.terminator_at-terminator-requires
terminator_at-terminator-requires c = search stop_fits

pub overflow_add-next : goal.overflow_add-next
overflow_add-next c = let s : c.skip_far-stop.result ≤ length c.args.text.now = search stop_fits in let w : c.terminator_at-terminator.result ≤ 2 = search terminator_at_most in omega arith

pub returns-then-stop-text : goal.returns-then-stop-text
returns-then-stop-text c = search line_bad_byte

pub returns-then-characters-gt-MOST_CHARACTERS : goal.returns-then-characters-gt-MOST_CHARACTERS
returns-then-characters-gt-MOST_CHARACTERS c = search last_long

pub returns-then-terminator-eq0 : goal.returns-then-terminator-eq0
returns-then-terminator-eq0 c = search last_unended

pub returns-then-characters-gt-MOST_CHARACTERS-2 : goal.returns-then-characters-gt-MOST_CHARACTERS-2
returns-then-characters-gt-MOST_CHARACTERS-2 c = search line_long

pub returns : goal.returns
returns c = search line_fine
