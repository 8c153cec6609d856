-- `lex_number::read_size` meets its contract. The loop's invariant: what is left, read on from the number so far, gives the whole.
-- Assumes nothing.
use mathlib.Core.Path.{◌≡◌}
use Prim.Native.Nat.{◌+◌, ◌≤◌, min}
use lib.ListN.{drop}
use Rattle.base.specs.Bytes.{is_digit}
use Rattle.base.specs.Runs.{run}
use Rattle.lex_number.specs.Way.Capped.{exponent_cap, capped_exponent, size_at}
use Rattle.lex_number.proofs.SizeLaws.{size_on}
use Rattle.lex_number.proofs.read_size.Given as goal

abbrev pub invariant-loop-i : goal.invariant-loop-i
invariant-loop-i l = (l.size ≤ exponent_cap) × (min (size_on (drop l.i l.s) l.size) exponent_cap ≡ (capped_exponent (size_at l.s l.from l.negative)).size) × (l.i + run is_digit (drop l.i l.s) ≡ (capped_exponent (size_at l.s l.from l.negative)).end)
