-- `lex_number::fast::read_run` meets its contract. The loop's invariant: what is left, read on from the number so far, gives the whole.
-- Assumes nothing.
use Prim.Native.Nat.{◌-◌, ◌≤◌, ◌<◌}
use lib.ListN.{length}
use Rattle.lex_number.specs.Way.At.{run_from, weight}
use Rattle.lex_number.proofs.PlainLaws.{Runs}
use Rattle.lex_number.proofs.fast.read_run.Given as goal

abbrev pub invariant-loop-i : goal.invariant-loop-i
invariant-loop-i l = (l.from ≤ l.i) × (l.i < length l.s) × (l.i - l.from ≤ l.stop - l.from) × (weight l.value l.i l.stop ≤ weight l.before l.from l.stop) × Runs l.s l.i l.value (run_from l.s l.from l.before)
