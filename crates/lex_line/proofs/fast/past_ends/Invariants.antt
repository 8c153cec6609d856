-- `lex_line::fast::past_ends` meets its contract. The loop's invariant: the last block in which a line ends, and the blocks
-- after it, in which none does.
-- Assumes nothing.
use Prim.Native.Nat.{◌-◌, ◌≤◌}
use lib.ListN.{length}
use Rattle.lex_line.proofs.ShortLaws.{Running}
use Rattle.lex_line.proofs.fast.past_ends.Given as goal

abbrev pub invariant-loop-block : goal.invariant-loop-block
invariant-loop-block l = (l.here - l.mark ≤ l.most) × Running l.text l.line l.count l.mark l.here

abbrev pub decreases-loop-block : goal.decreases-loop-block
decreases-loop-block l = length l.text - l.here
