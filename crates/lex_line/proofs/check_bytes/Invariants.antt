-- `lex_line::check_bytes` meets its contract. The loop's invariant: the lines from here on come to what the whole text comes to.
-- Assumes nothing.
use Prim.Native.Nat.{◌-◌}
use lib.ListN.{length}
use Rattle.lex_line.proofs.ShortLaws.{Checking}
use Rattle.lex_line.proofs.check_bytes.Given as goal

abbrev pub invariant-loop-at : goal.invariant-loop-at
invariant-loop-at l = Checking l.text l.at l.line

abbrev pub decreases-loop-at : goal.decreases-loop-at
decreases-loop-at l = length l.text - l.at
