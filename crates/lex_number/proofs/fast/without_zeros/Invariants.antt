-- `lex_number::fast::without_zeros` meets its contract. The loop's invariant: the size and the zeros taken off are the whole number.
-- Assumes nothing.
use mathlib.Core.Path.{◌≡◌}
use Prim.Native.Nat.{◌*◌, ◌^◌, ◌<◌}
use Rattle.lex_number.proofs.fast.without_zeros.Given as goal

abbrev pub invariant-loop-size : goal.invariant-loop-size
invariant-loop-size l = (l.all ≡ l.size * 10 ^ l.zeros) × (0 < l.size)

abbrev pub decreases-loop-size : goal.decreases-loop-size
decreases-loop-size l = l.size
