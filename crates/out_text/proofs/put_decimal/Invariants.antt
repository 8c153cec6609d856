-- `out_text::put_decimal` meets its contract. The loop's invariant: the digits left, before those found, are all of them,
-- and nothing is written yet.
-- Assumes nothing.
use mathlib.Core.Path.{◌≡◌}
use Rattle.out_text.proofs.DigitLaws.{Found}
use Rattle.out_text.proofs.put_decimal.Given as goal

abbrev pub invariant-loop-from : goal.invariant-loop-from
invariant-loop-from l = record { found : Found l.n l.digits l.from l.left; unwritten : l.out ≡ l.initial.out }
